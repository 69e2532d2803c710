-- The events of entries, where an entry or another event is added.
use Rattle.std.proofs.Common.{◌≡◌, ◌∙◌, ℕ, ◌≤◌, ◌+◌, List, [], ◌∷◌, ◌++◌, length, refl, sym, ap, subst, arith, length-append}
use Rattle.std.specs.Prelude.{map, vec_capacity}
use Rattle.std.specs.Global.{Vec}
use Rattle.std.proofs.lemmas.List.{map-append, get_or_append_left}
use Rattle.pp_model.specs.declared.event.Event.{Event}
use Rattle.pp_model.specs.declared.event.Event.TheVariants.{Submit}
use Rattle.pp_journal.specs.declared.entry.Entry.{Entry}
use Rattle.pp_journal.specs.declared.entry.Entry.TheVariants.{Other}
use Rattle.pp_journal.specs.Entries.{event_of, IsInside}
use Rattle.pp_journal.specs.Packing.{AreInside, IsPacked, IsMore}

-- ---- the events

-- More others leave the event of an entry that names none of these.
same_event : (others more : List Event) (e : Entry) → IsInside (length others) e
    → event_of (others ++ more) e ≡ event_of others e
same_event others more (Other place) h = get_or_append_left others more (Submit 0) place h
same_event others more _ h = refl

same_events : (others more : List Event) (es : List Entry) → AreInside (length others) es
    → map (event_of (others ++ more)) es ≡ map (event_of others) es
same_events others more [] h = refl
same_events others more (e ∷ es) h =
    ap (λ x. x ∷ map (event_of (others ++ more)) es) (same_event others more e h.0)
    ∙ ap (λ xs. event_of others e ∷ xs) (same_events others more es h.1)

-- With one entry more the events have its event more.
pub pushed : (old new : List Event) (es fs : List Entry) (e : Entry) (event : Event) → IsMore old new
    → AreInside (length old) es → event_of new e ≡ event → fs ≡ es ++ e ∷ []
    → map (event_of new) fs ≡ map (event_of old) es ++ event ∷ []
pushed old new es fs e event more inside is grows =
    ap (map (event_of new)) grows
    ∙ map-append (event_of new) es (e ∷ [])
    ∙ ap (λ xs. xs ++ event_of new e ∷ [])
    (ap (λ o. map (event_of o) es) more.grows ∙ same_events old more.added es inside)
    ∙ ap (λ x. map (event_of old) es ++ x ∷ []) is

-- ---- what is kept

inside_more : (n m : ℕ) (e : Entry) → n ≤ m → IsInside n e → IsInside m e
inside_more n m (Other place) le h = omega (arith, le, h)
inside_more n m _ le h = tt

inside_last : (n m : ℕ) (es : List Entry) (e : Entry) → n ≤ m → AreInside n es → IsInside m e
    → AreInside m (es ++ e ∷ [])
inside_last n m [] e le h x = (x, tt)
inside_last n m (f ∷ es) e le h x = (inside_more n m f le h.0, inside_last n m es e le h.1 x)

pub packed_more : (es fs : Vec Entry) (old new : Vec Event) (capacity : ℕ) (e : Entry) → IsPacked es old capacity
    → IsMore old.items new.items → IsInside (length new.items) e → fs.items ≡ es.items ++ e ∷ []
    → vec_capacity fs ≡ vec_capacity es → vec_capacity new ≡ vec_capacity old → IsPacked fs new capacity
packed_more es fs old new capacity e k more inside grows memory others_memory =
    let entries : length fs.items ≡ length es.items + 1 = ap length grows ∙ length-append es.items (e ∷ []) in
    let others : length new.items ≡ length old.items + length more.added
    = ap length more.grows ∙ length-append old.items more.added in
    record {
      inside =
          subst (AreInside (length new.items)) (sym grows)
          (inside_last (length old.items) (length new.items) es.items e (omega (arith, others)) k.inside inside);
      fewer = omega (arith, k.fewer, entries, others, more.one);
      room = omega (arith, k.room, memory);
      others_room = omega (arith, k.others_room, others_memory);
    }
