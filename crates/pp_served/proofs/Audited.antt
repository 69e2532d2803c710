-- The texts of segments that were taken out are accepted.
use Rattle.std.proofs.Common.{◌≡◌, ◌∙◌, Bool, None, List, [], length, map}
use Rattle.std.proofs.Common.{sym, ap, subst}
use Rattle.std.proofs.lemmas.List.{length-map}
use Rattle.std.specs.Prelude.{slice_get}
use Rattle.std.specs.List.{AllByRecursion}
use Rattle.pp_settings.specs.Settings.{Configuration}
use Rattle.pp_cert.specs.Accepted.{Acceptance}
use Rattle.pp_model.specs.Pool.{opening}
use Rattle.pp_model.specs.Journals.{IsJournalFrom}
use Rattle.pp_core.specs.Opening.{kept_of}
use Rattle.pp_core.proofs.PlanTies.{Places, more_places}
use Rattle.pp_ledger.specs.Segments.{Segment}
use Rattle.pp_ledger.specs.Taken.{Taken, AreTaken, plans_at_end, AreOneJournal}
use Rattle.pp_ledger.proofs.Added.{Adds}
use Rattle.pp_ledger.proofs.Joined.{taken_join}
use Rattle.pp_segments.specs.Segments.{all_names, all_lines, texts_from}
use Rattle.pp_segments.specs.Auditing.{told_count, begin_fault}
use Rattle.pp_segments.specs.Audits.{EndsSo, AreTrueSegments, IsAuditedSegments}
use Rattle.pp_segments.proofs.Texts.{written_audited}
use Rattle.pp_segments.proofs.Whole.{audited_again}
use Rattle.pp_served.specs.Texts.{told_of, text_words, count_lines, HasAllNumbers}
use Rattle.pp_served.specs.Served.{end_of, AreAccepted}
use Rattle.pp_served.proofs.Written.{taken_out, told_in, events_alike, places_alike, all_named, texts_alike, lines_fit}
use Rattle.pp_served.proofs.Written.{lines_counted}

module _ (c : Configuration) (xs : List Taken) (are : AreTaken (opening (kept_of c)) 0 [] xs)
    (prepared : List Acceptance) (added : Adds (plans_at_end [] xs) prepared) (ended : Bool) where
  one : AreOneJournal (opening (kept_of c)) 0 [] xs
  one = taken_join (opening (kept_of c)) 0 [] xs are

  -- More plans may be prepared than were then.
  places : Places prepared (all_names (told_in xs)) (end_of c xs).plans
  places =
      let there : Places (plans_at_end [] xs) (all_names (told_in xs)) (end_of c xs).plans
      = ap (map (slice_get (plans_at_end [] xs))) (sym (places_alike xs)) ∙ one.prepared in
      subst (λ ps. Places ps (all_names (told_in xs)) (end_of c xs).plans) (sym added.1)
      (more_places (plans_at_end [] xs) added.0 (all_names (told_in xs)) (end_of c xs).plans there)

  true_segments : AreTrueSegments c prepared (told_in xs) (end_of c xs)
  true_segments = record {
    is_true = subst (IsJournalFrom (opening (kept_of c)) (end_of c xs)) (events_alike xs) one.told;
    plans = places;
    named = all_named 0 0 xs one.headed;
  }

  abbrev IsAudited : List Segment → Type 0
  IsAudited gs =
      IsAuditedSegments c prepared ended (map text_words gs) (told_count (count_lines gs)) (told_count (length gs))

  written : AllByRecursion HasAllNumbers (taken_out xs) → begin_fault c prepared ≡ None → EndsSo ended (end_of c xs)
      → IsAudited (taken_out xs)
  written numbers begins ends =
      let fits = lines_fit (opening (kept_of c)) 0 0 [] xs are one.headed numbers in
      let audited = written_audited c prepared ended (told_in xs) (end_of c xs) begins true_segments fits ends in
      let segments = length-map (taken_out xs) told_of in
      let texts = texts_alike 0 0 xs one.headed in
      subst (λ ts. IsAuditedSegments c prepared ended ts (told_count (count_lines (taken_out xs)))
      (told_count (length (taken_out xs)))) (sym texts)
      (subst (λ n. IsAuditedSegments c prepared ended (texts_from 0 0 (told_in xs)) (told_count n)
      (told_count (length (taken_out xs)))) (lines_counted 0 0 xs one.headed)
      (subst (λ n. IsAuditedSegments c prepared ended (texts_from 0 0 (told_in xs))
      (told_count (length (all_lines (told_in xs)))) (told_count n)) segments audited))

  pub taken_accepted : (gs : List Segment) → AllByRecursion HasAllNumbers gs → taken_out xs ≡ gs
      → begin_fault c prepared ≡ None → EndsSo ended (end_of c xs) → AreAccepted c prepared ended gs
  taken_accepted gs numbers is begins ends =
      let audited : IsAudited gs =
      subst IsAudited is (written (subst (AllByRecursion HasAllNumbers) (sym is) numbers) begins ends) in
      record {
        texts = audited;
        verdict =
            audited_again c prepared ended (map text_words gs) (told_count (count_lines gs)) (told_count (length gs))
            audited;
      }
