-- The peaks of the plans that run sum to at most the frames.
use Rattle.std.proofs.Common.{◌≡◌, ℕ, zero, suc, ◌+◌, ◌≤◌, Option, Some, None, refl, sym, ap, subst, arith}
use Rattle.std.specs.Prelude.{sum_by, replicate}
use Rattle.std.proofs.lemmas.Bool.Decides.{nat_tests}
use Rattle.std.proofs.lemmas.List.Sums.{sum_by-cons}
use Rattle.pp_cert.specs.Accepted.{Acceptance}
use Rattle.pp_model.specs.Pool.{Running, State}
use Rattle.pp_model.specs.Budget.{peak_of, running_peaks}
use Rattle.pp_model.specs.Reached.{IsReached}
use Rattle.pp_model.proofs.Sums.{sum_by-slice_set}
use Rattle.pp_model.proofs.Crews.{Crew, crew_of, seated, Goes, acts, sends, reads, loads, loses, gives, ends, Begins}
use Rattle.pp_model.proofs.Crews.{begins, Turn, stays, turns, takes, turn}
use Rattle.pp_model.proofs.Reaching.{IsKept, holds}

-- The peaks fit the frames.
abbrev HasRoom : Crew → Type 0
HasRoom c = sum_by peak_of c.seats ≤ c.settings.layout.frames

goes_peak : (r : Running) (x : Option Running) → Goes r x → peak_of x ≤ r.accepted.peak
goes_peak r x (acts a g n e) = omega (arith, ap peak_of e)
goes_peak r x (sends slot page g h n i e) = omega (arith, ap peak_of e)
goes_peak r x (reads slot page v g e) = omega (arith, ap peak_of e)
goes_peak r x (loads slot page g e) = omega (arith, ap peak_of e)
goes_peak r x (loses slot page i e) = omega (arith, ap peak_of e)
goes_peak r x (gives given slot k g i e) = omega (arith, ap peak_of e)
goes_peak r x (ends e) = omega (arith, ap peak_of e)

begins_peak : (a : Acceptance) (x : Option Running) → Begins a x → peak_of x ≡ a.peak
begins_peak a x (begins number e) = ap peak_of e

turn_room : (c d : Crew) → Turn c d → HasRoom c → HasRoom d
turn_room c d (stays e) h = subst HasRoom (sym e) h
turn_room c d (turns w r x has g e) h =
    let room : HasRoom (seated c w x) = omega
    (arith, h, goes_peak r x g, sum_by-slice_set peak_of c.seats w (Some r) x has) in
    subst HasRoom (sym e) room
turn_room c d (takes w k a y idle next fits begun e) h =
    let small : a.peak + sum_by peak_of c.seats ≤ c.settings.layout.frames = grind (arith, nat_tests) in
    let peak = begins_peak a y begun in
    let room : HasRoom (seated c w y) = omega (arith, small, peak, sum_by-slice_set peak_of c.seats w None y idle) in
    subst HasRoom (sym e) room

idle_peaks : (n : ℕ) → sum_by peak_of (replicate n None) ≡ 0
idle_peaks zero = refl
idle_peaks (suc n) = omega (arith, sum_by-cons peak_of None (replicate n None), idle_peaks n)

abbrev PeaksFit : State → Type 0
PeaksFit s = HasRoom (crew_of s)

kept : IsKept PeaksFit
kept = record {
  opens = λ k ok. omega (arith, idle_peaks k.workers);
  moves = λ s t c h. turn_room (crew_of s) (crew_of t) (turn s t c) h;
  submits = λ s a ok e h. h;
  renews = λ s ok e h. h;
}

-- In a reached state the running peaks sum to at most the frames.
pub room : (s : State) → IsReached s → running_peaks s ≤ s.settings.layout.frames
room s h = holds PeaksFit s kept h
