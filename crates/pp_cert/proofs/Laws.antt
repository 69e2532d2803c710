-- What is read is spelled so, and what is spelled so is read.
use Rattle.std.proofs.Common.{◌≡◌, ℕ, suc, ◌≤◌, nat_le, List, [], ◌∷◌, ◌++◌, length, Result, Ok, Err, codes, refl, sym}
use Rattle.std.specs.Prelude.{not}
use Rattle.std.proofs.Common.{ap, subst, ◌∙◌, append_assoc, arith}
use Rattle.std.specs.Prelude.{All, IfOk, option_and_then}
use Rattle.std.specs.Option.{ok_or}
use Rattle.std.proofs.lemmas.Bool.{not-true, leb-true, le-leb}
use Rattle.std.proofs.lemmas.List.{append-nil}
use Rattle.std.proofs.lemmas.List.Elements.{All-nil, All-cons, All-head, All-tail}
use Rattle.serde_json.specs.Data.{Data, number, string, array, object, Items, no_items, item, Members, no_members, member}
use Rattle.serde_json.specs.Events.{items_len, members_len}
use Rattle.serde_json.specs.Find.{as_array, as_object, as_str}
use Rattle.serde_json.specs.Read.{read}
use Rattle.pp_text.specs.Steps.{must, Gives}
use Rattle.pp_text.specs.Objects.{has_only_keys}
use Rattle.pp_text.proofs.Steps.{bind_ok, must_ok, ok_or_ok, ok_is}
use Rattle.pp_text.proofs.Keys.{only_found, only_again}
use Rattle.pp_text.proofs.Values.{array_is, object_is, string_is, number_is, list_is}
use Rattle.pp_settings.specs.Settings.{Configuration, geometry_of, region_named}
use Rattle.pp_plan.specs.Terms.{Terms}
use Rattle.pp_plan.specs.Slots.{slot_named}
use Rattle.pp_plan.specs.Rules.{uses_bundle}
use Rattle.pp_cert.specs.declared.certificate.Certificate.{Certificate}
use Rattle.pp_cert.specs.declared.note.Entry.{Entry}
use Rattle.pp_cert.specs.declared.note.Entry.TheVariants.{Slot, Bundle}
use Rattle.pp_cert.specs.declared.error.CertError.{CertError}
use Rattle.pp_cert.specs.declared.error.CertError.TheVariants.{NotJson, WrongField, UnknownName, TooMany, WrongKind}
use Rattle.pp_cert.specs.CertErrors.{is_certificate_memory}
use Rattle.pp_cert.specs.Limits.{most_notes, most_entries}
use Rattle.pp_cert.specs.Claims.{Claims, claims_of, AreFew}
use Rattle.pp_cert.specs.Words.{held_text, held_of, certificate_keys}
use Rattle.pp_cert.specs.Reading.{as_two, read_page, read_bundle, read_entry, entries_from, read_note, notes_from}
use Rattle.pp_cert.specs.Reading.{list_at, number_at, claims_at, reading}
use Rattle.pp_cert.specs.Spelling.{SpellsEntry, SpellsEntries, SpellsNotes, Spells, IsText}
use Rattle.pp_cert.proofs.Values.{two_is, held_is, held_again, bound_of, bound_is, bound_again}

-- ---- entries

pair_is : (d : Data) (ds : Items) (a b x y : Data) → d ≡ array ds → ds ≡ item a (item b no_items) → a ≡ x → b ≡ y
    → d ≡ array (item x (item y no_items))
pair_is d ds a b x y is are first second = cc

page_found : (c : Configuration) (p : Terms) (key : List ℕ) (d : Data) (e : Entry) → read_page c p key d ≡ Ok e
    → SpellsEntry c p key d e
unfolding read_page
page_found c p key d e h =
    let (items, a, h1) = bind_ok (ok_or (as_array d) WrongField) _ e h in
    let (two, b, h2) = bind_ok (ok_or (as_two items) WrongField) _ e h1 in
    let (name, n, h3) = bind_ok (ok_or (as_str two.0) WrongField) _ e h2 in
    let (held, g, h4) = bind_ok (ok_or (option_and_then held_of (as_str two.1)) WrongField) _ e h3 in
    let (slot, s, h5) = bind_ok (ok_or (slot_named p key) UnknownName) _ e h4 in
    let (region, r, h6) = bind_ok (ok_or (region_named c name) UnknownName) _ e h5 in
    let (x, plain, h7) = bind_ok (must (not (uses_bundle p.body slot)) WrongKind) _ e h6 in
    let made : Entry = Slot slot region held in
    let is =
    pair_is d items two.0 two.1 (string name) (string (held_text held)) (array_is d items (ok_or_ok _ _ items a))
    (two_is items two (ok_or_ok _ _ two b)) (string_is two.0 name (ok_or_ok _ _ name n))
    (held_is two.1 held (ok_or_ok _ _ held g)) in
    subst (λ (x : Entry). SpellsEntry c p key d x) (ok_is made e h7) (record {
      slot = ok_or_ok _ _ slot s;
      plain = not-true (uses_bundle p.body slot) (must_ok _ _ x plain);
      name = name;
      region = ok_or_ok _ _ region r;
      value = is;
    })

bundle_found : (c : Configuration) (p : Terms) (key : List ℕ) (d : Data) (e : Entry) → read_bundle c p key d ≡ Ok e
    → SpellsEntry c p key d e
unfolding read_bundle
bundle_found c p key d e h =
    let (bound, k, h1) = bind_ok (ok_or (bound_of (geometry_of c) d) WrongField) _ e h in
    let (slot, s, h2) = bind_ok (ok_or (slot_named p key) UnknownName) _ e h1 in
    let (x, bundle, h3) = bind_ok (must (uses_bundle p.body slot) WrongKind) _ e h2 in
    let made : Entry = Bundle slot bound in
    let (is, within) = bound_is (geometry_of c) d bound (ok_or_ok _ _ bound k) in
    subst (λ (x : Entry). SpellsEntry c p key d x) (ok_is made e h3)
    (record { slot = ok_or_ok _ _ slot s; bundle = must_ok _ _ x bundle; bound = within; value = is })

pub entry_found : (c : Configuration) (p : Terms) (key : List ℕ) (d : Data) (e : Entry) → read_entry c p key d ≡ Ok e
    → SpellsEntry c p key d e
unfolding read_entry
entry_found c p key (number n) e h = bundle_found c p key (number n) e h
entry_found c p key d e h = page_found c p key d e h

pub entry_again : (c : Configuration) (p : Terms) (key : List ℕ) (d : Data) (e : Entry) → SpellsEntry c p key d e
    → read_entry c p key d ≡ Ok e
unfolding read_entry read_page read_bundle
entry_again c p key d (Slot t r h) s = rw (s.value, held_again h, s.slot, s.region, s.plain) refl
entry_again c p key d (Bundle t k) s = rw (s.value, bound_again (geometry_of c) k s.bound, s.slot, s.bundle) refl

pub entries_found : (c : Configuration) (p : Terms) (earlier : List Entry) (ms : Members) (all : List Entry)
    → entries_from c p earlier ms ≡ Ok all → (es : List Entry) × (all ≡ earlier ++ es) × SpellsEntries c p ms es
entries_found c p earlier no_members all h = ([], ok_is all earlier (sym h) ∙ sym (append-nil earlier), tt)
entries_found c p earlier (member key d ms) all h =
    let (e, next, h1) = bind_ok (read_entry c p key d) _ all h in
    let (es, parts, more) = entries_found c p (earlier ++ e ∷ []) ms all h1 in
    (e ∷ es, parts ∙ append_assoc earlier (e ∷ []) es, (entry_found c p key d e next, more))

pub entries_again : (c : Configuration) (p : Terms) (earlier : List Entry) (ms : Members) (es : List Entry)
    → SpellsEntries c p ms es → entries_from c p earlier ms ≡ Ok (earlier ++ es)
entries_again c p earlier no_members [] s = ap (λ (x : List Entry). Ok x) (sym (append-nil earlier))
entries_again c p earlier no_members (e ∷ es) s = absurd s
entries_again c p earlier (member key d ms) [] s = absurd s
entries_again c p earlier (member key d ms) (e ∷ es) s =
    rw (entry_again c p key d e s.0, entries_again c p (earlier ++ e ∷ []) ms es s.1)
    (ap (λ (x : List Entry). Ok x) (append_assoc earlier (e ∷ []) es))

pub entries_length : (c : Configuration) (p : Terms) (ms : Members) (es : List Entry) → SpellsEntries c p ms es
    → members_len ms ≡ length es
entries_length c p no_members [] s = refl
entries_length c p no_members (e ∷ es) s = absurd s
entries_length c p (member key d ms) [] s = absurd s
entries_length c p (member key d ms) (e ∷ es) s = ap (λ (n : ℕ). suc n) (entries_length c p ms es s.1)

-- ---- notes

pub note_found : (c : Configuration) (p : Terms) (d : Data) (es : List Entry) → read_note c p d ≡ Ok es → (ms : Members)
    × (d ≡ object ms) × SpellsEntries c p ms es × (length es ≤ most_entries)
unfolding read_note
note_found c p d es h =
    let (ms, o, h1) = bind_ok (ok_or (as_object d) WrongField) _ es h in
    let (x, few, h2) = bind_ok (must (nat_le (members_len ms) most_entries) TooMany) _ es h1 in
    let (fs, parts, s) = entries_found c p [] ms es h2 in
    let is : SpellsEntries c p ms es = subst (λ (x : List Entry). SpellsEntries c p ms x) (sym parts) s in
    let long = entries_length c p ms es is in
    let most = leb-true (members_len ms) most_entries (must_ok _ _ x few) in
    (ms, object_is d ms (ok_or_ok _ _ ms o), is, omega (arith, long, most))

pub note_again : (c : Configuration) (p : Terms) (ms : Members) (es : List Entry) → SpellsEntries c p ms es
    → length es ≤ most_entries → read_note c p (object ms) ≡ Ok es
unfolding read_note
note_again c p ms es s few =
    rw (le-leb (members_len ms) most_entries (omega (arith, entries_length c p ms es s)), entries_again c p [] ms es s)
    refl

spelt : (c : Configuration) (p : Terms) (ds : Items) (d : Data) (ms : Members) (note : List Entry)
    (notes : List (List Entry)) → d ≡ object ms → SpellsEntries c p ms note → SpellsNotes c p ds notes
    → SpellsNotes c p (item d ds) (note ∷ notes)
spelt c p ds d ms note notes e s more = rw e (s, more)

pub notes_found : (c : Configuration) (p : Terms) (earlier : List (List Entry)) (ds : Items) (all : List (List Entry))
    → notes_from c p earlier ds ≡ Ok all
    → (notes : List (List Entry)) × (all ≡ earlier ++ notes) × SpellsNotes c p ds notes
    × All (λ note. length note ≤ most_entries) notes
notes_found c p earlier no_items all h = (
  [],
  ok_is all earlier (sym h)
      ∙ sym (append-nil earlier),
  tt,
  All-nil (λ (note : List Entry). length note ≤ most_entries),
)
notes_found c p earlier (item d ds) all h =
    let (note, next, h1) = bind_ok (read_note c p d) _ all h in
    let (ms, is, s, few) = note_found c p d note next in
    let (notes, parts, more, rest) = notes_found c p (earlier ++ note ∷ []) ds all h1 in (
      note ∷ notes,
      parts ∙ append_assoc earlier (note ∷ []) notes,
      spelt c p ds d ms note notes is s more,
      All-cons (λ (x : List Entry). length x ≤ most_entries) note notes few rest,
    )

pub notes_again : (c : Configuration) (p : Terms) (earlier : List (List Entry)) (ds : Items) (notes : List (List Entry))
    → SpellsNotes c p ds notes → All (λ note. length note ≤ most_entries) notes
    → notes_from c p earlier ds ≡ Ok (earlier ++ notes)
notes_again c p earlier no_items [] s few = ap (λ (x : List (List Entry)). Ok x) (sym (append-nil earlier))
notes_again c p earlier no_items (note ∷ notes) s few = absurd s
notes_again c p earlier (item (object ms) ds) (note ∷ notes) s few =
    rw (
      note_again c p ms note s.0 (All-head (λ (x : List Entry). length x ≤ most_entries) note notes few),
      notes_again c p (earlier ++ note ∷ []) ds notes s.1
          (All-tail (λ (x : List Entry). length x ≤ most_entries) note notes few),
    )
    (ap (λ (x : List (List Entry)). Ok x) (append_assoc earlier (note ∷ []) notes))
notes_again c p earlier (item d ds) notes s few = absurd s

pub notes_length : (c : Configuration) (p : Terms) (ds : Items) (notes : List (List Entry)) → SpellsNotes c p ds notes
    → items_len ds ≡ length notes
notes_length c p no_items [] s = refl
notes_length c p no_items (note ∷ notes) s = absurd s
notes_length c p (item (object ms) ds) (note ∷ notes) s = ap (λ (n : ℕ). suc n) (notes_length c p ds notes s.1)
notes_length c p (item d ds) notes s = absurd s

-- ---- the certificate

pub claims_found : (c : Configuration) (p : Terms) (d : Data) (t : Claims) → claims_at c p d ≡ Ok t
    → Spells c p d t × AreFew t.notes
unfolding claims_at
claims_found c p d t h =
    let (x, known, h1) = bind_ok (must (has_only_keys certificate_keys d) WrongField) _ t h in
    let (ds, l, h2) = bind_ok (list_at (codes "notes") d) _ t h1 in
    let (peak, m, h3) = bind_ok (number_at (codes "peak") d) _ t h2 in
    let (steps, n, h4) = bind_ok (number_at (codes "steps") d) _ t h3 in
    let (y, few, h5) = bind_ok (must (nat_le (items_len ds) most_notes) TooMany) _ t h4 in
    let (notes, read, h6) = bind_ok (notes_from c p [] ds) _ t h5 in
    let made : Claims = record { notes = notes; peak = peak; steps = steps } in
    let (all, same, s, each) = notes_found c p [] ds notes read in
    let spelled : SpellsNotes c p ds notes = subst (λ (z : List (List Entry)). SpellsNotes c p ds z) (sym same) s in
    let short : All (λ note. length note ≤ most_entries) notes =
    subst (λ (z : List (List Entry)). All (λ note. length note ≤ most_entries) z) (sym same) each in
    let long = notes_length c p ds notes spelled in
    let most = leb-true (items_len ds) most_notes (must_ok _ _ y few) in
    let are : Spells c p d made = record {
      keys = only_found certificate_keys d (must_ok _ _ x known);
      notes = (ds, list_is _ ds (ok_or_ok _ _ ds l), spelled);
      peak = number_is _ peak (ok_or_ok _ _ peak m);
      steps = number_is _ steps (ok_or_ok _ _ steps n);
    } in
    subst (λ (u : Claims). Spells c p d u × AreFew u.notes) (ok_is made t h6)
    (are, record { notes_few = omega (arith, long, most); entries_few = short })

pub claims_again : (c : Configuration) (p : Terms) (d : Data) (t : Claims) → Spells c p d t → AreFew t.notes
    → claims_at c p d ≡ Ok t
unfolding claims_at
claims_again c p d t s few =
    let (ds, at_notes, spelled) = s.notes in
    let count = le-leb (items_len ds) most_notes (omega (arith, notes_length c p ds t.notes spelled, few.notes_few)) in
    rw (
      only_again certificate_keys d s.keys,
      at_notes,
      s.peak,
      s.steps,
      count,
      notes_again c p [] ds t.notes spelled few.entries_few,
    ) refl

-- ---- the text

pub is_found : (c : Configuration) (p : Terms) (text : List ℕ) (r : Result Certificate CertError)
    → Gives is_certificate_memory claims_of r (reading c p text) → IfOk r (λ t. IsText c p text (claims_of t))
is_found c p text (Ok t) given =
    let (d, parsed, e) = bind_ok (ok_or (read text) NotJson) (claims_at c p) (claims_of t) given in
    let (s, few) = claims_found c p d (claims_of t) e in
    (d, ok_or_ok _ _ d parsed, s, few)
is_found c p text (Err e) given = tt

pub text_again : (c : Configuration) (p : Terms) (text : List ℕ) (t : Claims) → IsText c p text t
    → reading c p text ≡ Ok t
text_again c p text t (d, parsed, s, few) = rw (parsed, claims_again c p d t s few) refl

pub is_only : (c : Configuration) (p : Terms) (text : List ℕ) (r : Result Certificate CertError) (t : Claims)
    → Gives is_certificate_memory claims_of r (reading c p text) → IsText c p text t
    → Gives is_certificate_memory claims_of r (Ok t)
is_only c p text r t given is =
    subst (λ (x : Result Claims CertError). Gives is_certificate_memory claims_of r x) (text_again c p text t is) given
