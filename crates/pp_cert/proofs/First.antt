-- The refusal that reading gives tells the first fault in the order.
use Rattle.std.proofs.Common.{◌≡◌, ◌≢◌, inl, inr, ℕ, zero, suc, ◌≤◌, ◌<◌, Bool, true, false, nat_le, List, [], ◌∷◌}
use Rattle.std.proofs.Common.{◌++◌, length, Option, Some, None, option_and_then, Result, Ok, Err, codes, refl, sym, ap}
use Rattle.std.proofs.Common.{subst, ◌∙◌, arith}
use Rattle.std.specs.Prelude.{not, IfOk, IfErr, slice_get}
use Rattle.std.specs.Option.{ok_or, option_map_or}
use Rattle.std.proofs.lemmas.Bool.{not-false, leb-true, leb-false, false≢true}
use Rattle.serde_json.specs.Data.{unsigned, Num, Data, null, boolean, number, string, array, object, Items, no_items, item}
use Rattle.serde_json.specs.Data.{Members, no_members, member}
use Rattle.serde_json.specs.Events.{items_len, members_len}
use Rattle.serde_json.specs.Find.{as_array, as_object, as_str, as_number, as_u64, get}
use Rattle.serde_json.specs.Read.{read}
use Rattle.pp_text.specs.Steps.{◌>>=◌, must, Refuses, Gives}
use Rattle.pp_text.specs.Objects.{has_only_keys, Holds}
use Rattle.pp_text.proofs.Steps.{bind_ok, must_ok, ok_or_ok}
use Rattle.pp_text.proofs.Keys.{only_found, only_again}
use Rattle.pp_text.proofs.Values.{array_is, object_is, string_is, number_is, list_is}
use Rattle.pp_settings.specs.Layout.{Geometry}
use Rattle.pp_settings.specs.Settings.{Configuration, geometry_of, region_named}
use Rattle.pp_plan.specs.Terms.{Terms}
use Rattle.pp_plan.specs.Slots.{slot_named}
use Rattle.pp_plan.specs.Rules.{uses_bundle}
use Rattle.pp_cert.specs.declared.certificate.Certificate.{Certificate}
use Rattle.pp_cert.specs.declared.note.Entry.{Entry}
use Rattle.pp_cert.specs.declared.note.Entry.TheVariants.{Slot, Bundle}
use Rattle.pp_cert.specs.declared.error.CertError.{CertError}
use Rattle.pp_cert.specs.declared.error.CertError.TheVariants.{NotJson, WrongField, UnknownName, TooMany, WrongKind}
use Rattle.pp_cert.specs.declared.error.CertError.TheVariants.{OutOfMemory}
use Rattle.pp_cert.specs.CertErrors.{is_certificate_memory}
use Rattle.pp_cert.specs.Limits.{most_notes, most_entries}
use Rattle.pp_cert.specs.Claims.{Claims, claims_of}
use Rattle.pp_cert.specs.Words.{held_text, held_of, certificate_keys}
use Rattle.pp_cert.specs.Reading.{as_two, read_page, read_bundle, read_entry, entries_from, read_note, notes_from}
use Rattle.pp_cert.specs.Reading.{list_at, number_at, claims_at, reading}
use Rattle.pp_cert.specs.Spelling.{SpellsEntry}
use Rattle.pp_text.specs.First.{IsFirstBy}
use Rattle.pp_text.specs.Objects.{elements}
use Rattle.pp_cert.specs.Faults.{notes_in, Written, entries_in, IsPageForm, IsBundleForm, EntryFault, other_form, no_slot}
use Rattle.pp_cert.specs.Faults.{no_region, other_kind, HasEntryFault, EntryBefore, NoteFault, no_object, many_entries}
use Rattle.pp_cert.specs.Faults.{in_entry, HasNoteFault, NoteBefore, Fault, not_json, other_top, many_notes, in_note}
use Rattle.pp_cert.specs.Faults.{IsTopForm, HasFault, IsBefore, entry_error, note_error, TellsFirst}
use Rattle.pp_cert.proofs.Values.{two_is, held_is, held_again, bound_of, bound_is, bound_again}
use Rattle.pp_cert.proofs.Laws.{entry_found}

-- ---- steps that fail

-- A step that failed, or one that was passed and the rest that failed.
step : {A B G : Type 0} (r : Result A CertError) (next : A → Result B CertError) (e : CertError) → (r >>= next) ≡ Err e
    → (r ≡ Err e → G) → ((x : A) → r ≡ Ok x → next x ≡ Err e → G) → G
step (Ok x) next e h refused passed = passed x refl h
step (Err d) next e h refused passed = let is : d ≡ e = cc in refused (ap (λ f. Err f) is)

ok_or_err : {A : Type 0} (o : Option A) (d e : CertError) → ok_or o d ≡ Err e → (o ≡ None) × (d ≡ e)
ok_or_err None d e h = (refl, cc)
ok_or_err (Some x) d e h = absurd cc

must_err : (b : Bool) (d e : CertError) → must b d ≡ Err e → (b ≡ false) × (d ≡ e)
must_err true d e h = absurd cc
must_err false d e h = (refl, cc)

none_some : {A : Type 0} (o : Option A) (x : A) → o ≡ None → o ≡ Some x → ⊥
none_some o x a b = absurd cc

some_is : {A : Type 0} (x y : A) → ◌≡◌ {A = Option A} (Some x) (Some y) → x ≡ y
some_is x y e = cc

-- ---- one entry

abbrev EntryTold : Configuration → Terms → Written → CertError → Type 0
EntryTold c p w e = (f : EntryFault) × (entry_error f ≡ e) × IsFirstBy (HasEntryFault c p w) EntryBefore f

before_form : (g : EntryFault) → EntryBefore g other_form → ⊥
before_form other_form b = b
before_form no_slot b = b
before_form no_region b = b
before_form other_kind b = b

form_told : (c : Configuration) (p : Terms) (w : Written) (e : CertError) → WrongField ≡ e → ¬ IsPageForm w.value
    → ¬ IsBundleForm c w.value → EntryTold c p w e
form_told c p w e is no_page no_bundle = (other_form, is, ((no_page, no_bundle), λ g b. absurd (before_form g b)))

-- a number is no list, and only a number is a bundle's entry
page_is_list : (d : Data) (name : List ℕ) (rest : Items) → d ≡ array (item (string name) rest) → as_number d ≡ None
page_is_list d name rest is = ap as_number is

bundle_is_number : (c : Configuration) (d : Data) → as_number d ≡ None → ¬ IsBundleForm c d
bundle_is_number c d none has = none_some (as_number d) (unsigned has.0) none (ap as_number has.2)

parts_are : (x y a b : Data) (d : Data) → d ≡ array (item x (item y no_items)) → d ≡ array (item a (item b no_items))
    → (a ≡ x) × (b ≡ y)
parts_are x y a b d is also = (cc, cc)

first_is : (x a : Data) (xs as_ : Items) (d : Data) → d ≡ array (item x xs) → d ≡ array (item a as_) → a ≡ x
first_is x a xs as_ d is also = cc

array_parts : (d : Data) (ds : Items) (x y : Data) → d ≡ array ds → ds ≡ item x (item y no_items)
    → d ≡ array (item x (item y no_items))
array_parts d ds x y is are = cc

text_is : (x y : List ℕ) → ◌≡◌ {A = Data} (string x) (string y) → x ≡ y
text_is x y e = cc

module _ (c : Configuration) (p : Terms) where
  page_first : (key : List ℕ) (d : Data) (e : CertError) → as_number d ≡ None → read_page c p key d ≡ Err e
      → EntryTold c p (record { name = key; value = d }) e
  unfolding read_page
  page_first key d e other h =
      let w : Written = record { name = key; value = d } in
      let told = λ (is : WrongField ≡ e) (no : ¬ IsPageForm d). form_told c p w e is no (bundle_is_number c d other) in
      step (ok_or (as_array d) WrongField) _ e h
      (λ bad.
      let (none, is) = ok_or_err (as_array d) WrongField e bad in
      told is (λ f. none_some (as_array d) _ none (ap as_array f.2)))
      (λ items a h1.
      let list = array_is d items (ok_or_ok _ _ items a) in
      step (ok_or (as_two items) WrongField) _ e h1
      (λ bad.
      let (none, is) = ok_or_err (as_two items) WrongField e bad in
      told is (λ f. none_some (as_two items) (string f.0, string (held_text f.1)) none
      (ap as_two (list_parts d items _ list f.2))))
      (λ two b h2.
      let tree = array_parts d items two.0 two.1 list (two_is items two (ok_or_ok _ _ two b)) in
      step (ok_or (as_str two.0) WrongField) _ e h2
      (λ bad.
      let (none, is) = ok_or_err (as_str two.0) WrongField e bad in
      told is (λ f. none_some (as_str two.0) f.0 none
      (ap as_str (sym (parts_are two.0 two.1 _ _ d tree f.2).0))))
      (λ name n h3.
      step (ok_or (option_and_then held_of (as_str two.1)) WrongField) _ e h3
      (λ bad.
      let (none, is) = ok_or_err (option_and_then held_of (as_str two.1)) WrongField e bad in
      told is (λ f. none_some (option_and_then held_of (as_str two.1)) f.1 none
      (ap (λ (x : Data). option_and_then held_of (as_str x)) (sym (parts_are two.0 two.1 _ _ d tree f.2).1)
      ∙ held_again f.1)))
      (λ held g h4.
      let first = string_is two.0 name (ok_or_ok _ _ name n) in
      let second = held_is two.1 held (ok_or_ok _ _ held g) in
      let form : IsPageForm d = (name, held, tree ∙ (λ i. array (item (first i) (item (second i) no_items)))) in
      step (ok_or (slot_named p key) UnknownName) _ e h4
      (λ bad.
      let (none, is) = ok_or_err (slot_named p key) UnknownName e bad in
      (no_slot, is, (none, slot_before w form)))
      (λ slot s h5.
      let known = ok_or_ok _ _ slot s in
      step (ok_or (region_named c name) UnknownName) _ e h5
      (λ bad.
      let (none, is) = ok_or_err (region_named c name) UnknownName e bad in
      (no_region, is, ((name, _, form.2, none), region_before w form slot known)))
      (λ region r h6.
      let there = ok_or_ok _ _ region r in
      step (must (not (uses_bundle p.body slot)) WrongKind) _ e h6
      (λ bad.
      let (kind, is) = must_err (not (uses_bundle p.body slot)) WrongKind e bad in (
        other_kind,
        is,
        (
          (slot, known, inr (form, not-false (uses_bundle p.body slot) kind)),
          kind_before w form slot region known there,
        ),
      ))
      (λ x k h7. absurd cc)))))))
    where
      list_parts : (d : Data) (ds es : Items) → d ≡ array ds → d ≡ array es → ds ≡ es
      list_parts d ds es is also = cc

      slot_before : (w : Written) → IsPageForm w.value → (g : EntryFault) → EntryBefore g no_slot
          → ¬ HasEntryFault c p w g
      slot_before w form other_form b has = has.0 form
      slot_before w form no_slot b has = b
      slot_before w form no_region b has = b
      slot_before w form other_kind b has = b

      region_before : (w : Written) → IsPageForm w.value → (slot : ℕ) → slot_named p w.name ≡ Some slot
          → (g : EntryFault) → EntryBefore g no_region → ¬ HasEntryFault c p w g
      region_before w form slot known other_form b has = has.0 form
      region_before w form slot known no_slot b has = none_some (slot_named p w.name) slot has known
      region_before w form slot known no_region b has = b
      region_before w form slot known other_kind b has = b

      kind_before : (w : Written) (form : IsPageForm w.value) (slot region : ℕ) → slot_named p w.name ≡ Some slot
          → region_named c form.0 ≡ Some region → (g : EntryFault) → EntryBefore g other_kind → ¬ HasEntryFault c p w g
      kind_before w form slot region known there other_form b has = has.0 form
      kind_before w form slot region known there no_slot b has = none_some (slot_named p w.name) slot has known
      kind_before w form slot region known there no_region b has =
          let same : has.0 ≡ form.0 = text_is has.0 form.0 (first_is _ _ _ _ w.value form.2 has.2) in
          none_some (region_named c form.0) region (ap (region_named c) (sym same) ∙ has.3) there
      kind_before w form slot region known there other_kind b has = b

  bundle_first : (key : List ℕ) (n : Num) (e : CertError) → read_bundle c p key (number n) ≡ Err e
      → EntryTold c p (record { name = key; value = number n }) e
  unfolding read_bundle
  bundle_first key n e h =
      let d : Data = number n in
      let w : Written = record { name = key; value = d } in
      let g : Geometry = geometry_of c in
      step (ok_or (bound_of g d) WrongField) _ e h
      (λ bad.
      let (none, is) = ok_or_err (bound_of g d) WrongField e bad in
      form_told c p w e is (λ f. no_list n f.0 _ f.2)
      (λ f. none_some (bound_of g d) f.0 none (ap (bound_of g) f.2 ∙ bound_again g f.0 f.1)))
      (λ bound k h1.
      let (value, within) = bound_is g d bound (ok_or_ok _ _ bound k) in
      let form : IsBundleForm c d = (bound, within, value) in
      step (ok_or (slot_named p key) UnknownName) _ e h1
      (λ bad.
      let (none, is) = ok_or_err (slot_named p key) UnknownName e bad in
      (no_slot, is, (none, slot_before form)))
      (λ slot s h2.
      let known = ok_or_ok _ _ slot s in
      step (must (uses_bundle p.body slot) WrongKind) _ e h2
      (λ bad.
      let (kind, is) = must_err (uses_bundle p.body slot) WrongKind e bad in
      (other_kind, is, ((slot, known, inl (form, kind)), kind_before form slot known)))
      (λ x b h3. absurd cc)))
    where
      no_list : (n : Num) (name : List ℕ) (rest : Items) → number n ≡ array (item (string name) rest) → ⊥
      no_list n name rest is = none_some (as_number (number n)) n (page_is_list (number n) name rest is) refl

      slot_before : IsBundleForm c (number n) → (g : EntryFault) → EntryBefore g no_slot
          → ¬ HasEntryFault c p (record { name = key; value = number n }) g
      slot_before form other_form b has = has.1 form
      slot_before form no_slot b has = b
      slot_before form no_region b has = b
      slot_before form other_kind b has = b

      kind_before : IsBundleForm c (number n) → (slot : ℕ) → slot_named p key ≡ Some slot
          → (g : EntryFault) → EntryBefore g other_kind
          → ¬ HasEntryFault c p (record { name = key; value = number n }) g
      kind_before form slot known other_form b has = has.1 form
      kind_before form slot known no_slot b has = none_some (slot_named p key) slot has known
      kind_before form slot known no_region b has = no_list n has.0 has.1 has.2
      kind_before form slot known other_kind b has = b

  entry_first : (key : List ℕ) (d : Data) (e : CertError) → read_entry c p key d ≡ Err e
      → EntryTold c p (record { name = key; value = d }) e
  unfolding read_entry
  entry_first key (number n) e h = bundle_first key n e h
  entry_first key null e h = page_first key null e refl h
  entry_first key (boolean b) e h = page_first key (boolean b) e refl h
  entry_first key (string text) e h = page_first key (string text) e refl h
  entry_first key (array ds) e h = page_first key (array ds) e refl h
  entry_first key (object ms) e h = page_first key (object ms) e refl h

  -- an entry that was read has no fault
  entry_clear : (key : List ℕ) (d : Data) (x : Entry) → read_entry c p key d ≡ Ok x
      → (f : EntryFault) → ¬ HasEntryFault c p (record { name = key; value = d }) f
  entry_clear key d x h f has = spelled_clear key d x (entry_found c p key d x h) f has
    where
      same_slot : (key : List ℕ) (s t : ℕ) → slot_named p key ≡ Some s → slot_named p key ≡ Some t → s ≡ t
      same_slot key s t at_s at_t = cc

      two_kinds : (key : List ℕ) (s t : ℕ) → slot_named p key ≡ Some s → slot_named p key ≡ Some t
          → uses_bundle p.body s ≡ false → uses_bundle p.body t ≡ true → ⊥
      two_kinds key s t at_s at_t plain bundle =
          let same = same_slot key s t at_s at_t in
          false≢true (sym plain ∙ ap (uses_bundle p.body) same ∙ bundle)

      two_forms : (d : Data) (name : List ℕ) (rest : Items) (k : ℕ) → d ≡ array (item (string name) rest)
          → d ≡ number (unsigned k) → ⊥
      two_forms d name rest k list bound =
          none_some (as_number d) (unsigned k) (page_is_list d name rest list) (ap as_number bound)

      spelled_clear : (key : List ℕ) (d : Data) (x : Entry) → SpellsEntry c p key d x
          → (f : EntryFault) → ¬ HasEntryFault c p (record { name = key; value = d }) f
      spelled_clear key d (Bundle t k) s other_form has = has.1 (k, s.bound, s.value)
      spelled_clear key d (Bundle t k) s no_slot has = none_some (slot_named p key) t has s.slot
      spelled_clear key d (Bundle t k) s no_region has = two_forms d has.0 has.1 k has.2 s.value
      spelled_clear key d (Bundle t k) s other_kind (slot, at, inl (form, plain)) =
          two_kinds key slot t at s.slot plain s.bundle
      spelled_clear key d (Bundle t k) s other_kind (slot, at, inr (form, bundle)) =
          two_forms d form.0 _ k form.2 s.value
      spelled_clear key d (Slot t r h) s other_form has = has.0 (s.name, h, s.value)
      spelled_clear key d (Slot t r h) s no_slot has = none_some (slot_named p key) t has s.slot
      spelled_clear key d (Slot t r h) s no_region has =
          let same : has.0 ≡ s.name = text_is has.0 s.name (first_is _ _ _ _ d s.value has.2) in
          none_some (region_named c s.name) r (ap (region_named c) (sym same) ∙ has.3) s.region
      spelled_clear key d (Slot t r h) s other_kind (slot, at, inl (form, plain)) =
          two_forms d s.name _ form.0 s.value form.2
      spelled_clear key d (Slot t r h) s other_kind (slot, at, inr (form, bundle)) =
          two_kinds key t slot s.slot at s.plain bundle

  -- ---- the entries of a note

  -- none of these has a fault
  abbrev AreClear : List Written → Type 0
  AreClear ws = (j : ℕ) (v : Written) → slice_get ws j ≡ Some v → (f : EntryFault) → ¬ HasEntryFault c p v f

  -- the entry with number i is the first that has one, and it is told
  record EntriesTold (ws : List Written) (e : CertError) : Type 0 where
    place : ℕ
    entry : Written
    there : slice_get ws place ≡ Some entry
    told : EntryTold c p entry e
    clear : (j : ℕ) (v : Written) → j < place → slice_get ws j ≡ Some v → (f : EntryFault) → ¬ HasEntryFault c p v f

  clear_head : (w v : Written) → ((f : EntryFault) → ¬ HasEntryFault c p w f)
      → ◌≡◌ {A = Option Written} (Some w) (Some v)
      → (f : EntryFault) → ¬ HasEntryFault c p v f
  clear_head w v none is f has = none f (subst (λ (x : Written). HasEntryFault c p x f) (sym (some_is w v is)) has)

  entries_first : (earlier : List Entry) (ms : Members) (e : CertError) → entries_from c p earlier ms ≡ Err e
      → EntriesTold (entries_in ms) e
  entries_first earlier no_members e h = absurd cc
  entries_first earlier (member key d ms) e h =
      let w : Written = record { name = key; value = d } in
      step (read_entry c p key d) _ e h
      (λ bad. record {
        place = 0;
        entry = w;
        there = refl;
        told = entry_first key d e bad;
        clear =
            λ j v b. absurd (omega (arith, b));
      })
      (λ x ok h1. next w (entries_in ms) (entry_clear key d x ok) (entries_first (earlier ++ x ∷ []) ms e h1))
    where
      next : (w : Written) (ws : List Written) → ((f : EntryFault) → ¬ HasEntryFault c p w f) → EntriesTold ws e
          → EntriesTold (w ∷ ws) e
      next w ws none t = record { place = suc t.place; entry = t.entry; there = t.there; told = t.told; clear = all }
        where
          all : (j : ℕ) (v : Written) → j < suc t.place → slice_get (w ∷ ws) j ≡ Some v → (f : EntryFault)
              → ¬ HasEntryFault c p v f
          all zero v b is = clear_head w v none is
          all (suc j) v b is = t.clear j v (omega (arith, b)) is

  entries_clear : (earlier : List Entry) (ms : Members) (all : List Entry) → entries_from c p earlier ms ≡ Ok all
      → AreClear (entries_in ms)
  entries_clear earlier no_members all h j v is f has = absurd cc
  entries_clear earlier (member key d ms) all h zero v is f has =
      let (x, ok, h1) = bind_ok (read_entry c p key d) _ all h in
      clear_head (record { name = key; value = d }) v (entry_clear key d x ok) is f has
  entries_clear earlier (member key d ms) all h (suc j) v is f has =
      let (x, ok, h1) = bind_ok (read_entry c p key d) _ all h in
      entries_clear (earlier ++ x ∷ []) ms all h1 j v is f has

  -- ---- one note

  abbrev NoteTold : Data → CertError → Type 0
  NoteTold d e = (f : NoteFault) × (note_error f ≡ e) × IsFirstBy (HasNoteFault c p d) NoteBefore f

  entries_count : (ms : Members) → length (entries_in ms) ≡ members_len ms
  entries_count no_members = refl
  entries_count (member key d ms) = ap suc (entries_count ms)

  same_members : (d : Data) (ms ns : Members) → d ≡ object ms → d ≡ object ns → ns ≡ ms
  same_members d ms ns is also = cc

  before_object : (g : NoteFault) → NoteBefore g no_object → ⊥
  before_object no_object b = b
  before_object many_entries b = b
  before_object (in_entry i f) b = b

  not_crowded : (d : Data) (ms : Members) → d ≡ object ms → members_len ms ≤ most_entries
      → ¬ HasNoteFault c p d many_entries
  not_crowded d ms is few has =
      let same = ap (λ (x : Members). length (entries_in x)) (same_members d ms has.0 is has.1) in
      omega (arith, few, has.2, same, entries_count ms)

  note_first : (d : Data) (e : CertError) → read_note c p d ≡ Err e → NoteTold d e
  unfolding read_note
  note_first d e h =
      step (ok_or (as_object d) WrongField) _ e h
      (λ bad.
      let (none, is) = ok_or_err (as_object d) WrongField e bad in
      (no_object, is, (λ o. none_some (as_object d) o.0 none (ap as_object o.1), λ g b. absurd (before_object g b))))
      (λ ms o h1.
      let is = object_is d ms (ok_or_ok _ _ ms o) in
      step (must (nat_le (members_len ms) most_entries) TooMany) _ e h1
      (λ bad.
      let (crowd, error) = must_err (nat_le (members_len ms) most_entries) TooMany e bad in
      let more = leb-false (members_len ms) most_entries crowd in
      (many_entries, error, ((ms, is, omega (arith, more, entries_count ms)), before_crowd d ms is)))
      (λ x few h2.
      let within = leb-true (members_len ms) most_entries (must_ok _ _ x few) in
      in_entries d ms e is within (entries_first [] ms e h2)))
    where
      before_crowd : (d : Data) (ms : Members) → d ≡ object ms → (g : NoteFault) → NoteBefore g many_entries
          → ¬ HasNoteFault c p d g
      before_crowd d ms is no_object b has = has (ms, is)
      before_crowd d ms is many_entries b has = b
      before_crowd d ms is (in_entry i f) b has = b

      in_entries : (d : Data) (ms : Members) (e : CertError) → d ≡ object ms → members_len ms ≤ most_entries
          → EntriesTold (entries_in ms) e → NoteTold d e
      in_entries d ms e is few t =
          (in_entry t.place t.told.0, t.told.1, ((ms, is, (t.entry, t.there, t.told.2.0)), before))
        where
          at : (ns : Members) (i : ℕ) (v : Written) → d ≡ object ns → slice_get (entries_in ns) i ≡ Some v
              → slice_get (entries_in ms) i ≡ Some v
          at ns i v also is_there =
              subst (λ (x : Members). slice_get (entries_in x) i ≡ Some v) (same_members d ms ns is also) is_there

          before : (g : NoteFault) → NoteBefore g (in_entry t.place t.told.0) → ¬ HasNoteFault c p d g
          before no_object b has = has (ms, is)
          before many_entries b has = not_crowded d ms is few has
          before (in_entry j g) (inl lower) has = t.clear j has.2.0 lower (at has.0 j has.2.0 has.1 has.2.1) g has.2.2
          before (in_entry j g) (inr (same, earlier)) has =
              let here : slice_get (entries_in ms) t.place ≡ Some has.2.0 =
              ap (slice_get (entries_in ms)) (sym same) ∙ at has.0 j has.2.0 has.1 has.2.1 in
              let one = some_is t.entry has.2.0 (sym t.there ∙ here) in
              t.told.2.1 g earlier (subst (λ (x : Written). HasEntryFault c p x g) (sym one) has.2.2)

  note_clear : (d : Data) (es : List Entry) → read_note c p d ≡ Ok es → (f : NoteFault) → ¬ HasNoteFault c p d f
  unfolding read_note
  note_clear d es h f has =
      let (ms, o, h1) = bind_ok (ok_or (as_object d) WrongField) _ es h in
      let (x, few, h2) = bind_ok (must (nat_le (members_len ms) most_entries) TooMany) _ es h1 in
      by ms (object_is d ms (ok_or_ok _ _ ms o)) (leb-true (members_len ms) most_entries (must_ok _ _ x few))
      (entries_clear [] ms es h2) f has
    where
      by : (ms : Members) → d ≡ object ms → members_len ms ≤ most_entries → AreClear (entries_in ms)
          → (f : NoteFault) → ¬ HasNoteFault c p d f
      by ms is few clear no_object none = none (ms, is)
      by ms is few clear many_entries crowd = not_crowded d ms is few crowd
      by ms is few clear (in_entry i g) (ns, also, (v, there, bad)) =
          clear i v (subst (λ (x : Members). slice_get (entries_in x) i ≡ Some v) (same_members d ms ns is also) there)
          g bad

  -- ---- the notes

  record NotesTold (xs : List Data) (e : CertError) : Type 0 where
    place : ℕ
    note : Data
    there : slice_get xs place ≡ Some note
    told : NoteTold note e
    clear : (j : ℕ) (y : Data) → j < place → slice_get xs j ≡ Some y → (f : NoteFault) → ¬ HasNoteFault c p y f

  note_head : (x y : Data) → ((f : NoteFault) → ¬ HasNoteFault c p x f) → ◌≡◌ {A = Option Data} (Some x) (Some y)
      → (f : NoteFault) → ¬ HasNoteFault c p y f
  note_head x y none is f has = none f (subst (λ (z : Data). HasNoteFault c p z f) (sym (some_is x y is)) has)

  notes_first : (earlier : List (List Entry)) (ds : Items) (e : CertError) → notes_from c p earlier ds ≡ Err e
      → NotesTold (elements ds) e
  notes_first earlier no_items e h = absurd cc
  notes_first earlier (item d ds) e h =
      step (read_note c p d) _ e h
      (λ bad. record {
        place = 0;
        note = d;
        there = refl;
        told = note_first d e bad;
        clear =
            λ j y b. absurd (omega (arith, b));
      })
      (λ x ok h1. next d (elements ds) (note_clear d x ok) (notes_first (earlier ++ x ∷ []) ds e h1))
    where
      next : (x : Data) (xs : List Data) → ((f : NoteFault) → ¬ HasNoteFault c p x f) → NotesTold xs e
          → NotesTold (x ∷ xs) e
      next x xs none t = record { place = suc t.place; note = t.note; there = t.there; told = t.told; clear = all }
        where
          all : (j : ℕ) (y : Data) → j < suc t.place → slice_get (x ∷ xs) j ≡ Some y → (f : NoteFault)
              → ¬ HasNoteFault c p y f
          all zero y b is = note_head x y none is
          all (suc j) y b is = t.clear j y (omega (arith, b)) is

  notes_clear : (earlier : List (List Entry)) (ds : Items) (all : List (List Entry))
      → notes_from c p earlier ds ≡ Ok all
      → (j : ℕ) (y : Data) → slice_get (elements ds) j ≡ Some y → (f : NoteFault) → ¬ HasNoteFault c p y f
  notes_clear earlier no_items all h j y is f has = absurd cc
  notes_clear earlier (item d ds) all h zero y is f has =
      let (x, ok, h1) = bind_ok (read_note c p d) _ all h in
      note_head d y (note_clear d x ok) is f has
  notes_clear earlier (item d ds) all h (suc j) y is f has =
      let (x, ok, h1) = bind_ok (read_note c p d) _ all h in
      notes_clear (earlier ++ x ∷ []) ds all h1 j y is f has

  -- ---- the whole value

  elements_count : (ds : Items) → length (elements ds) ≡ items_len ds
  elements_count no_items = refl
  elements_count (item d ds) = ap suc (elements_count ds)

  notes_are : (d : Data) (ds : Items) → Holds d (codes "notes") (array ds) → notes_in d ≡ elements ds
  notes_are d ds held = ap (λ (o : Option Data). option_map_or elements (option_and_then as_array o) []) held

  before_top : (g : Fault) → IsBefore g other_top → (d : Data) → ¬ HasFault c p (Some d) g
  before_top not_json b d has = has
  before_top other_top b d has = b
  before_top many_notes b d has = b
  before_top (in_note n f) b d has = b

  top_told : (d : Data) (e : CertError) → WrongField ≡ e → ¬ IsTopForm d → TellsFirst c p (Some d) e
  top_told d e is missing = (other_top, is, (missing, λ g b. before_top g b d))

  not_many : (d : Data) (ds : Items) → Holds d (codes "notes") (array ds) → items_len ds ≤ most_notes
      → ¬ HasFault c p (Some d) many_notes
  not_many d ds held few has =
      let same = ap (λ (xs : List Data). length xs) (notes_are d ds held) in
      omega (arith, few, has, same, elements_count ds)

  claims_first : (d : Data) (e : CertError) → claims_at c p d ≡ Err e → TellsFirst c p (Some d) e
  unfolding claims_at
  claims_first d e h =
      step (must (has_only_keys certificate_keys d) WrongField) _ e h
      (λ bad.
      let (other, is) = must_err (has_only_keys certificate_keys d) WrongField e bad in
      top_told d e is (λ form. false≢true (sym other ∙ only_again certificate_keys d form.0)))
      (λ x only h1.
      let keys = only_found certificate_keys d (must_ok _ _ x only) in
      step (list_at (codes "notes") d) _ e h1
      (λ bad.
      let (none, is) = ok_or_err (option_and_then as_array (get (codes "notes") d)) WrongField e bad in
      top_told d e is (λ form. none_some _ form.1.0 none (ap (option_and_then as_array) form.1.1)))
      (λ ds l h2.
      let notes : Holds d (codes "notes") (array ds) = list_is _ ds (ok_or_ok _ _ ds l) in
      step (number_at (codes "peak") d) _ e h2
      (λ bad.
      let (none, is) = ok_or_err (number_of (codes "peak")) WrongField e bad in
      top_told d e is (λ form. none_some _ form.2.0 none (ap number_in form.2.1)))
      (λ peak m h3.
      let peak_is : Holds d (codes "peak") (number (unsigned peak)) = number_is _ peak (ok_or_ok _ _ peak m) in
      step (number_at (codes "steps") d) _ e h3
      (λ bad.
      let (none, is) = ok_or_err (number_of (codes "steps")) WrongField e bad in
      top_told d e is (λ form. none_some _ form.3.0 none (ap number_in form.3.1)))
      (λ steps n h4.
      let steps_is : Holds d (codes "steps") (number (unsigned steps)) = number_is _ steps (ok_or_ok _ _ steps n) in
      let form : IsTopForm d = (keys, (ds, notes), (peak, peak_is), (steps, steps_is)) in
      step (must (nat_le (items_len ds) most_notes) TooMany) _ e h4
      (λ bad.
      let (crowd, is) = must_err (nat_le (items_len ds) most_notes) TooMany e bad in
      let more = leb-false (items_len ds) most_notes crowd in
      let same = ap (λ (xs : List Data). length xs) (notes_are d ds notes) in
      (many_notes, is, (omega (arith, more, same, elements_count ds), before_many form)))
      (λ y few h5.
      let within = leb-true (items_len ds) most_notes (must_ok _ _ y few) in
      step (notes_from c p [] ds) _ e h5
      (λ bad. in_notes form ds notes within (notes_first [] ds e bad))
      (λ all ok h6. absurd cc))))))
    where
      number_in : Option Data → Option ℕ
      number_in o = option_and_then as_u64 (option_and_then as_number o)

      number_of : List ℕ → Option ℕ
      number_of key = number_in (get key d)

      before_many : IsTopForm d → (g : Fault) → IsBefore g many_notes → ¬ HasFault c p (Some d) g
      before_many form not_json b has = has
      before_many form other_top b has = has form
      before_many form many_notes b has = b
      before_many form (in_note n f) b has = b

      in_notes : IsTopForm d → (ds : Items) → Holds d (codes "notes") (array ds) → items_len ds ≤ most_notes
          → NotesTold (elements ds) e → TellsFirst c p (Some d) e
      in_notes form ds held few t = (
        in_note t.place t.told.0,
        t.told.1,
        ((t.note, at t.place t.note (sym (notes_are d ds held)) t.there, t.told.2.0), before),
      )
        where
          at : {xs ys : List Data} (i : ℕ) (y : Data) → xs ≡ ys → slice_get xs i ≡ Some y → slice_get ys i ≡ Some y
          at i y same is_there = subst (λ (zs : List Data). slice_get zs i ≡ Some y) same is_there

          before : (g : Fault) → IsBefore g (in_note t.place t.told.0) → ¬ HasFault c p (Some d) g
          before not_json b has = has
          before other_top b has = has form
          before many_notes b has = not_many d ds held few has
          before (in_note j g) (inl lower) has = t.clear j has.0 lower (at j has.0 (notes_are d ds held) has.1) g has.2
          before (in_note j g) (inr (same, earlier)) has =
              let here : slice_get (elements ds) t.place ≡ Some has.0 =
              ap (slice_get (elements ds)) (sym same) ∙ at j has.0 (notes_are d ds held) has.1 in
              let one = some_is t.note has.0 (sym t.there ∙ here) in
              t.told.2.1 g earlier (subst (λ (x : Data). HasNoteFault c p x g) (sym one) has.2)

  claims_clear : (d : Data) (t : Claims) → claims_at c p d ≡ Ok t → (f : Fault) → ¬ HasFault c p (Some d) f
  unfolding claims_at
  claims_clear d t h f has =
      let (x, only, h1) = bind_ok (must (has_only_keys certificate_keys d) WrongField) _ t h in
      let (ds, l, h2) = bind_ok (list_at (codes "notes") d) _ t h1 in
      let (peak, m, h3) = bind_ok (number_at (codes "peak") d) _ t h2 in
      let (steps, n, h4) = bind_ok (number_at (codes "steps") d) _ t h3 in
      let (y, few, h5) = bind_ok (must (nat_le (items_len ds) most_notes) TooMany) _ t h4 in
      let (notes, ok, h6) = bind_ok (notes_from c p [] ds) _ t h5 in
      let held : Holds d (codes "notes") (array ds) = list_is _ ds (ok_or_ok _ _ ds l) in
      let peak_is : Holds d (codes "peak") (number (unsigned peak)) = number_is _ peak (ok_or_ok _ _ peak m) in
      let steps_is : Holds d (codes "steps") (number (unsigned steps)) = number_is _ steps (ok_or_ok _ _ steps n) in
      let keys = only_found certificate_keys d (must_ok _ _ x only) in
      by (keys, (ds, held), (peak, peak_is), (steps, steps_is)) ds held
      (leb-true (items_len ds) most_notes (must_ok _ _ y few)) (notes_clear [] ds notes ok) f has
    where
      by : IsTopForm d → (ds : Items) → Holds d (codes "notes") (array ds) → items_len ds ≤ most_notes
          → ((j : ℕ) (y : Data) → slice_get (elements ds) j ≡ Some y → (g : NoteFault) → ¬ HasNoteFault c p y g)
          → (f : Fault) → ¬ HasFault c p (Some d) f
      by form ds held few clear not_json has = has
      by form ds held few clear other_top has = has form
      by form ds held few clear many_notes has = not_many d ds held few has
      by form ds held few clear (in_note j g) (y, there, bad) =
          clear j y (subst (λ (zs : List Data). slice_get zs j ≡ Some y) (notes_are d ds held) there) g bad

  -- ---- the text

  before_json : (g : Fault) → IsBefore g not_json → ⊥
  before_json not_json b = b
  before_json other_top b = b
  before_json many_notes b = b
  before_json (in_note n f) b = b

  text_first : (text : List ℕ) (e : CertError) → reading c p text ≡ Err e → TellsFirst c p (read text) e
  text_first text e h = by (read text) h
    where
      by : (o : Option Data) → (ok_or o NotJson >>= claims_at c p) ≡ Err e → TellsFirst c p o e
      by None h = (not_json, cc, (tt, λ g b. absurd (before_json g b)))
      by (Some d) h = claims_first d e h

  text_clear : (text : List ℕ) (t : Claims) → reading c p text ≡ Ok t → (f : Fault) → ¬ HasFault c p (read text) f
  text_clear text t h f has =
      let (d, parsed, h1) = bind_ok (ok_or (read text) NotJson) (claims_at c p) t h in
      claims_clear d t h1 f (subst (λ (o : Option Data). HasFault c p o f) (ok_or_ok (read text) NotJson d parsed) has)

  told_first : (text : List ℕ) (e : CertError) → e ≢ OutOfMemory
      → Refuses {Y = Claims} (is_certificate_memory e) e (reading c p text)
      → TellsFirst c p (read text) e
  told_first text OutOfMemory other h = absurd (other refl)
  told_first text e other h = text_first text e h

pub refused_first : (c : Configuration) (p : Terms) (text : List ℕ) (r : Result Certificate CertError)
    → Gives is_certificate_memory claims_of r (reading c p text)
    → IfErr r (λ e. e ≢ OutOfMemory → TellsFirst c p (read text) e)
refused_first c p text (Ok t) gives = tt
refused_first c p text (Err e) gives = λ other. told_first c p text e other gives

pub accepted_clear : (c : Configuration) (p : Terms) (text : List ℕ) (r : Result Certificate CertError)
    → Gives is_certificate_memory claims_of r (reading c p text)
    → IfOk r (λ t. (f : Fault) → ¬ HasFault c p (read text) f)
accepted_clear c p text (Ok t) gives = text_clear c p text (claims_of t) gives
accepted_clear c p text (Err e) gives = tt
