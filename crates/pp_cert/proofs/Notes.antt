-- The notes that a text spells have entries of the plan and the settings, by rising slot.
use Rattle.std.proofs.Common.{◌≡◌, ℕ, ◌<◌, Bool, false, cond, nat_lt, List, [], ◌∷◌, length, get_or, Option, Some, None}
use Rattle.std.proofs.Common.{Ordering, Less, Equal, Greater, codes, nat_cmp, sym, ap, subst, ◌∙◌, arith}
use Rattle.std.specs.Prelude.{All, AllPairs, IsTrue, IfOk, Result, Ok, Err}
use Rattle.std.specs.List.{position, position_or_len}
use Rattle.std.specs.Str.{bytes_eq}
use Rattle.std.specs.Ordering.{match_ordering, ordering_reverse, is_lt}
use Rattle.std.specs.Cmp.Lexicographic.{slice_cmp}
use Rattle.std.proofs.lemmas.Bool.Decides.{nat_tests}
use Rattle.std.proofs.lemmas.Cmp.{nat_list_cmp_total, tied_itself}
use Rattle.std.proofs.lemmas.List.Elements.{All-nil, All-cons}
use Rattle.std.proofs.lemmas.List.Kept.{AllPairs-cons}
use Rattle.std.proofs.lemmas.List.Quantifiers.{position-Some}
use Rattle.std.proofs.lemmas.Slice.Eq.{bytes_eq-Decides}
use Rattle.serde_json.specs.Data.{Data, null, boolean, number, string, array, object, Items, no_items, item, Members}
use Rattle.serde_json.specs.Data.{no_members, member}
use Rattle.serde_json.specs.Find.{get_member}
use Rattle.pp_text.specs.Steps.{Gives}
use Rattle.pp_text.specs.Objects.{Holds}
use Rattle.pp_settings.specs.Settings.{Configuration}
use Rattle.pp_plan.specs.Names.{comes_before}
use Rattle.pp_plan.specs.Terms.{Terms, IsPlan}
use Rattle.pp_plan.specs.Slots.{slot_named}
use Rattle.pp_cert.specs.declared.certificate.Certificate.{Certificate}
use Rattle.pp_cert.specs.declared.error.CertError.{CertError}
use Rattle.pp_cert.specs.declared.note.Entry.{Entry}
use Rattle.pp_cert.specs.declared.note.Entry.TheVariants.{Slot, Bundle}
use Rattle.pp_cert.specs.Notes.{entry_slot}
use Rattle.pp_cert.specs.Claims.{Claims, claims_of, IsEntry, IsNote, AreClaims}
use Rattle.pp_cert.specs.CertErrors.{is_certificate_memory}
use Rattle.pp_cert.specs.Reading.{reading}
use Rattle.pp_cert.specs.Spelling.{SpellsEntry, SpellsEntries, SpellsNotes, IsText}
use Rattle.pp_cert.proofs.Laws.{is_found}
use Rattle.pp_cert.proofs.Order.{IsBefore, IsBeforeAll, IsInOrder, AreInOrder, MembersInOrder, read_in_order}

-- ---- places

below_when_found : (n l i : ℕ) → cond (nat_lt n l) (Some n) None ≡ Some i → i < l
below_when_found n l i e = grind (arith, nat_tests)

pub position_below : {X : Type 0} (p : X → Bool) (xs : List X) (i : ℕ) → position p xs ≡ Some i → i < length xs
position_below p xs i e = below_when_found (position_or_len p xs) (length xs) i e

named_at : (p : Terms) (name : List ℕ) (i : ℕ) → slot_named p name ≡ Some i → get_or p.slots i [] ≡ name
named_at p name i e =
    (bytes_eq-Decides (get_or p.slots i []) name).0 (position-Some (λ n. bytes_eq n name) p.slots i [] e).1

pub not_itself : (k : List ℕ) → IsBefore k k → ⊥
not_itself k b = let same : slice_cmp nat_cmp k k ≡ Equal = tied_itself nat_list_cmp_total k in absurd cc

not_both : (j k : List ℕ) → IsBefore j k → IsTrue (comes_before k j) → ⊥
not_both j k b h =
    let after : slice_cmp nat_cmp k j ≡ Greater = nat_list_cmp_total.antisymm k j ∙ ap ordering_reverse b in
    let no : is_lt (slice_cmp nat_cmp k j) ≡ false = ap is_lt after in
    absurd cc

rest_is_below : (a b : ℕ) → (b < a → ⊥) → (a ≡ b → ⊥) → a < b
rest_is_below a b no_less no_same = omega (arith, no_less, no_same)

-- Slots rise with their names.
pub slots_rise : (p : Terms) → IsPlan p → (j k : List ℕ) (a b : ℕ) → slot_named p j ≡ Some a → slot_named p k ≡ Some b
    → IsBefore j k → a < b
slots_rise p plan j k a b at_a at_b before =
    let is_j = named_at p j a at_a in
    let is_k = named_at p k b at_b in
    let within = position_below (λ n. bytes_eq n j) p.slots a at_a in
    let no_less =
    λ (l : b < a). not_both j k before
    (subst (λ (x : List ℕ). IsTrue (comes_before k x)) is_j
    (subst (λ (x : List ℕ). IsTrue (comes_before x (get_or p.slots a []))) is_k (plan.order b a [] l within))) in
    let no_same =
    λ (e : a ≡ b). not_itself k
    (subst (λ (x : List ℕ). IsBefore x k) (sym is_j ∙ ap (λ (i : ℕ). get_or p.slots i []) e ∙ is_k) before) in
    rest_is_below a b no_less no_same

-- ---- notes

AllPairs-nil : {X : Type 0} (R : X → X → Type 0) → AllPairs {X = X} R []
AllPairs-nil R i j d l within = absurd (omega arith)

spelled_slot : (c : Configuration) (p : Terms) (key : List ℕ) (d : Data) (e : Entry) → SpellsEntry c p key d e
    → slot_named p key ≡ Some (entry_slot e)
spelled_slot c p key d (Slot t r h) s = s.slot
spelled_slot c p key d (Bundle t k) s = s.slot

spelled_entry : (c : Configuration) (p : Terms) (key : List ℕ) (d : Data) (e : Entry) → SpellsEntry c p key d e
    → IsEntry c p e
spelled_entry c p key d (Slot t r h) s = record {
  slot = position_below (λ n. bytes_eq n key) p.slots t s.slot;
  kind = s.plain;
  region = position_below (λ r. bytes_eq r.name s.name) c.regions r s.region;
  bound = tt;
}
spelled_entry c p key d (Bundle t k) s = record {
  slot = position_below (λ n. bytes_eq n key) p.slots t s.slot;
  kind = s.bundle;
  region = tt;
  bound = s.bound;
}

entries_above : (c : Configuration) (p : Terms) → IsPlan p → (j : List ℕ) (a : ℕ) (ms : Members) (es : List Entry)
    → slot_named p j ≡ Some a → IsBeforeAll j ms → SpellsEntries c p ms es → All (λ e. a < entry_slot e) es
entries_above c p plan j a no_members [] at_a before s = All-nil (λ (e : Entry). a < entry_slot e)
entries_above c p plan j a no_members (e ∷ es) at_a before s = absurd s
entries_above c p plan j a (member k d ms) [] at_a before s = absurd s
entries_above c p plan j a (member k d ms) (e ∷ es) at_a before s =
    All-cons (λ (x : Entry). a < entry_slot x) e es
    (slots_rise p plan j k a (entry_slot e) at_a (spelled_slot c p k d e s.0) before.0)
    (entries_above c p plan j a ms es at_a before.1 s.1)

pub entries_rise : (c : Configuration) (p : Terms) → IsPlan p → (ms : Members) (es : List Entry) → MembersInOrder ms
    → SpellsEntries c p ms es → AllPairs (λ d e. entry_slot d < entry_slot e) es
entries_rise c p plan no_members [] o s = AllPairs-nil (λ (d e : Entry). entry_slot d < entry_slot e)
entries_rise c p plan no_members (e ∷ es) o s = absurd s
entries_rise c p plan (member k d ms) [] o s = absurd s
entries_rise c p plan (member k d ms) (e ∷ es) o s =
    AllPairs-cons (λ (x y : Entry). entry_slot x < entry_slot y) e es
    (entries_above c p plan k (entry_slot e) ms es (spelled_slot c p k d e s.0) o.0 s.1)
    (entries_rise c p plan ms es o.2 s.1)

pub are_entries : (c : Configuration) (p : Terms) (ms : Members) (es : List Entry) → SpellsEntries c p ms es
    → All (IsEntry c p) es
are_entries c p no_members [] s = All-nil (IsEntry c p)
are_entries c p no_members (e ∷ es) s = absurd s
are_entries c p (member k d ms) [] s = absurd s
are_entries c p (member k d ms) (e ∷ es) s =
    All-cons (IsEntry c p) e es (spelled_entry c p k d e s.0) (are_entries c p ms es s.1)

pub are_notes : (c : Configuration) (p : Terms) → IsPlan p → (ds : Items) (notes : List (List Entry)) → AreInOrder ds
    → SpellsNotes c p ds notes → All (IsNote c p) notes
are_notes c p plan no_items [] o s = All-nil (IsNote c p)
are_notes c p plan no_items (note ∷ notes) o s = absurd s
are_notes c p plan (item (object ms) ds) (note ∷ notes) o s =
    All-cons (IsNote c p) note notes
    (record { entries = are_entries c p ms note s.0; rising = entries_rise c p plan ms note o.0 s.0 })
    (are_notes c p plan ds notes o.1 s.1)
are_notes c p plan (item d ds) notes o s = absurd s

-- ---- claims

found_in_order : (r : Ordering) (o : Option Data) (e d : Data) → match_ordering r o (Some e) o ≡ Some d → IsInOrder e
    → (o ≡ Some d → IsInOrder d) → IsInOrder d
found_in_order Less o e d is here later = later is
found_in_order Equal o e d is here later = let same : e ≡ d = cc in subst IsInOrder same here
found_in_order Greater o e d is here later = later is

member_in_order : (k : List ℕ) (ms : Members) (d : Data) → get_member k ms ≡ Some d → MembersInOrder ms → IsInOrder d
member_in_order k no_members d e o = absurd cc
member_in_order k (member l x ms) d e o =
    found_in_order (slice_cmp nat_cmp k l) (get_member k ms) x d e o.1 (λ later. member_in_order k ms d later o.2)

held_in_order : (k : List ℕ) (d v : Data) → Holds d k v → IsInOrder d → IsInOrder v
held_in_order k (object ms) v e o = member_in_order k ms v e o
held_in_order k null v e o = absurd cc
held_in_order k (boolean b) v e o = absurd cc
held_in_order k (number n) v e o = absurd cc
held_in_order k (string s) v e o = absurd cc
held_in_order k (array ds) v e o = absurd cc

pub are_claims : (c : Configuration) (p : Terms) (text : List ℕ) (t : Claims) → IsPlan p → IsText c p text t
    → AreClaims c p t
are_claims c p text t plan (d, parsed, s, few) =
    let (ds, at_notes, spelled) = s.notes in
    let order = held_in_order (codes "notes") d (array ds) at_notes (read_in_order text d parsed) in
    record { few = few; notes = are_notes c p plan ds t.notes order spelled }

pub is_writable : (c : Configuration) (p : Terms) (text : List ℕ) (r : Result Certificate CertError) → IsPlan p
    → Gives is_certificate_memory claims_of r (reading c p text) → IfOk r (λ t. AreClaims c p (claims_of t))
is_writable c p text (Ok t) plan given = are_claims c p text (claims_of t) plan (is_found c p text (Ok t) given)
is_writable c p text (Err e) plan given = tt
