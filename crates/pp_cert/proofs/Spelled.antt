-- The tree that is written spells the claims, so reading gives them again.
use Rattle.std.proofs.Common.{◌≡◌, ℕ, ◌<◌, ◌≤◌, List, [], ◌∷◌, length, map, get_or, Some, refl, sym, ap}
use Rattle.std.proofs.Common.{subst, ◌∙◌, arith}
use Rattle.std.specs.Prelude.{All, Ok}
use Rattle.std.specs.Str.{bytes_eq}
use Rattle.std.proofs.lemmas.List.Elements.{All-head, All-tail}
use Rattle.std.proofs.lemmas.Option.{unwrap_or-slice_get}
use Rattle.std.proofs.lemmas.Slice.Eq.{bytes_eq-Decides}
use Rattle.serde_json.specs.Data.{Data, object, depth}
use Rattle.serde_json.specs.Read.{read}
use Rattle.serde_json.specs.View.{items_of}
use Rattle.pp_settings.specs.Settings.{Configuration, IsConfiguration}
use Rattle.pp_plan.specs.Terms.{Terms, IsPlan}
use Rattle.pp_plan.specs.Slots.{slot_named}
use Rattle.pp_cert.specs.declared.note.Entry.{Entry}
use Rattle.pp_cert.specs.declared.note.Entry.TheVariants.{Slot, Bundle}
use Rattle.pp_cert.specs.Notes.{entry_slot}
use Rattle.pp_cert.specs.Claims.{Claims, IsEntry, IsNote, AreClaims}
use Rattle.pp_text.proofs.Positions.{position_only, same_text}
use Rattle.pp_plan.specs.Writing.{slot_name, region_name}
use Rattle.pp_plan.proofs.Spelled.{region_named_again}
use Rattle.pp_cert.specs.Tree.{entry_tree, entry_members, note_tree, certificate_members}
use Rattle.pp_cert.specs.Reading.{reading}
use Rattle.pp_cert.specs.Spelling.{SpellsEntry, SpellsEntries, SpellsNotes, Spells}
use Rattle.pp_cert.proofs.Laws.{text_again}
use Rattle.pp_cert.proofs.Notes.{not_itself}
use Rattle.pp_cert.proofs.Order.{IsBefore}
use Rattle.pp_cert.proofs.Tree.{names_rise}
use Rattle.pp_cert.proofs.Written.{few_levels}

-- ---- names

slot_again : (p : Terms) → IsPlan p → (slot : ℕ) → slot < length p.slots
    → slot_named p (slot_name p.slots slot) ≡ Some slot
slot_again p plan slot within =
    let at = λ (k : ℕ). unwrap_or-slice_get p.slots k [] in
    position_only (λ n. bytes_eq n (slot_name p.slots slot)) p.slots slot [] within
    ((bytes_eq-Decides (get_or p.slots slot []) (slot_name p.slots slot)).1 (sym (at slot)))
    (λ k below same. not_itself (slot_name p.slots slot)
    (subst (λ (x : List ℕ). IsBefore x (slot_name p.slots slot))
    (at k ∙ same_text (get_or p.slots k []) (slot_name p.slots slot) same) (names_rise p plan k slot below within)))

-- ---- the tree

entry_spelled : (c : Configuration) (p : Terms) → IsConfiguration c → IsPlan p → (e : Entry) → IsEntry c p e
    → SpellsEntry c p (slot_name p.slots (entry_slot e)) (entry_tree c e) e
entry_spelled c p settings plan (Slot s r h) is = record {
  slot = slot_again p plan s is.slot;
  plain = is.kind;
  name = region_name c r;
  region = region_named_again c settings r is.region;
  value = refl;
}
entry_spelled c p settings plan (Bundle s k) is =
    record { slot = slot_again p plan s is.slot; bundle = is.kind; bound = is.bound; value = refl }

entries_spelled : (c : Configuration) (p : Terms) → IsConfiguration c → IsPlan p → (es : List Entry)
    → All (IsEntry c p) es → SpellsEntries c p (entry_members c p es) es
entries_spelled c p settings plan [] are = tt
entries_spelled c p settings plan (e ∷ es) are = (
  entry_spelled c p settings plan e (All-head (IsEntry c p) e es are),
  entries_spelled c p settings plan es (All-tail (IsEntry c p) e es are),
)

notes_spelled : (c : Configuration) (p : Terms) → IsConfiguration c → IsPlan p → (notes : List (List Entry))
    → All (IsNote c p) notes → SpellsNotes c p (items_of (map (note_tree c p) notes)) notes
notes_spelled c p settings plan [] are = tt
notes_spelled c p settings plan (note ∷ notes) are = (
  entries_spelled c p settings plan note (All-head (IsNote c p) note notes are).entries,
  notes_spelled c p settings plan notes (All-tail (IsNote c p) note notes are),
)

certificate_spelled : (c : Configuration) (p : Terms) → IsConfiguration c → IsPlan p → (t : Claims) → AreClaims c p t
    → Spells c p (object (certificate_members c p t)) t
certificate_spelled c p settings plan t are = record {
  keys = (
    certificate_members c p t,
    refl,
    ((0, omega arith, refl), ((1, omega arith, refl), ((2, omega arith, refl), tt))),
  );
  notes = (items_of (map (note_tree c p) t.notes), refl, notes_spelled c p settings plan t.notes are.notes);
  peak = refl;
  steps = refl;
}

-- What the writer gives of the tree reads as the claims.
pub reads_as : (c : Configuration) (p : Terms) → IsConfiguration c → IsPlan p → (t : Claims) → AreClaims c p t
    → (d : Data) (text : List ℕ) → d ≡ object (certificate_members c p t) → (depth d ≤ 127 → read text ≡ Some d)
    → reading c p text ≡ Ok t
reads_as c p settings plan t are d text is parses =
    let within : depth d ≤ 127 = subst (λ (x : Data). depth x ≤ 127) (sym is) (few_levels c p t) in
    let parsed = parses within ∙ ap (λ (x : Data). Some x) is in
    text_again c p text t (
      object (certificate_members c p t),
      parsed,
      certificate_spelled c p settings plan t are,
      are.few,
    )
