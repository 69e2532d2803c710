-- What each move leaves alone, in the words of the laws.
use Rattle.std.proofs.Common.{◌≡◌, ℕ, Bool, true, false, Option, Some, None, refl, subst}
use Rattle.pp_model.specs.declared.refusals.Cause.TheVariants.{NoErrand, NotDirty, NoFlushLeft}
use Rattle.pp_model.specs.declared.refusals.Delay.TheVariants.{FlushBusy, LatchHeld}
use Rattle.pp_model.specs.declared.refusals.SubmitError.{SubmitError}
use Rattle.pp_model.specs.declared.reply.Reply.{Reply}
use Rattle.pp_model.specs.declared.reply.Reply.TheVariants.{Flushing, Flushed, NotNow, OffPlan}
use Rattle.pp_model.specs.Pool.{Flush, State, mark_at}
use Rattle.pp_model.specs.Flushing.{flush_where, flush_by, is_clean, flushed_where, flushed_by}
use Rattle.pp_model.specs.Moves.{next_of, is_refusal}
use Rattle.pp_model.specs.Submitting.{submit_error, submitted_unless}
use Rattle.pp_model.specs.WorkerParts.{worker_of}
use Rattle.pp_model.specs.Alone.{FlushStays, FlushStarts, FlushEnds, SettingsStay, OthersSit, AllSit, SubmitLeaves}
use Rattle.pp_model.proofs.Shapes.{Alone, alone}

-- ---- workers' moves

pub flush_stays : (s : State) → FlushStays s
flush_stays s m w e = (subst (Alone s m) e (alone s m)).flush

pub others_sit : (s : State) → OthersSit s
others_sit s m w v e apart = (subst (Alone s m) e (alone s m)).others v apart

-- ---- moves of the flusher

pub all_sit : (s : State) → AllSit s
all_sit s m e = (subst (Alone s m) e (alone s m)).seats

-- A refusal isn't an answer of a flush that begins or ends.
not_refused : (x y : Reply) → x ≡ y → is_refusal x ≡ true → is_refusal y ≡ false → ⊥
not_refused x y e is isnt = absurd (cc)

mark_begun : (a b page : ℕ) → Flushing a ≡ Flushing b
    → ◌≡◌ {A = Option Flush} (Some (record { page = page; began = a })) (Some (record { page = page; began = b }))
mark_begun a b page e = cc

starts_tested : (s : State) (page mark : ℕ) (a b c : Bool) → s.flush ≡ None
    → (flush_where s page a b c).reply ≡ Flushing mark
    → (s.flush ≡ None) × ((flush_where s page a b c).state.flush ≡ Some (record { page = page; began = mark }))
starts_tested s page mark false b c none is = absurd (not_refused (OffPlan NotDirty) (Flushing mark) is refl refl)
starts_tested s page mark true false c none is =
    absurd (not_refused (OffPlan NoFlushLeft) (Flushing mark) is refl refl)
starts_tested s page mark true true true none is =
    absurd (not_refused (NotNow LatchHeld) (Flushing mark) is refl refl)
starts_tested s page mark true true false none is = (none, mark_begun (mark_at s page) mark page is)

starts_by : (s : State) (page mark : ℕ) (o : Option Flush) → s.flush ≡ o → (flush_by s page o).reply ≡ Flushing mark
    → (s.flush ≡ None) × ((flush_by s page o).state.flush ≡ Some (record { page = page; began = mark }))
starts_by s page mark (Some f) e is = absurd (not_refused (NotNow FlushBusy) (Flushing mark) is refl refl)
starts_by s page mark None e is = starts_tested s page mark _ _ _ e is

pub flush_starts : (s : State) → FlushStarts s
flush_starts s page mark is = starts_by s page mark s.flush refl is

ends_tested : (s : State) (page : ℕ) (b : Bool) → (flushed_where s page b).state.flush ≡ None
ends_tested s page true = refl
ends_tested s page false = refl

ends_by : (s : State) (ok clean : Bool) (o : Option Flush) → s.flush ≡ o → (flushed_by s ok o).reply ≡ Flushed clean
    → ((f : Flush) × (s.flush ≡ Some f)) × ((flushed_by s ok o).state.flush ≡ None)
ends_by s ok clean None e is = absurd (not_refused (OffPlan NoErrand) (Flushed clean) is refl refl)
ends_by s ok clean (Some f) e is = ((f, e), ends_tested s f.page (is_clean s ok f))

pub flush_ends : (s : State) → FlushEnds s
flush_ends s ok clean is = ends_by s ok clean s.flush refl is

-- ---- all moves, and plans

pub settings_stay : (s : State) → SettingsStay s
settings_stay s m = go (worker_of m) (alone s m)
  where
    go : (o : Option ℕ) → Alone s m o → (next_of s m).settings ≡ s.settings
    go (Some w) k = k.settings
    go None k = k.settings

pub submit_leaves : (s : State) → SubmitLeaves s
submit_leaves s a = go (submit_error s a)
  where
    go : (o : Option SubmitError)
        → ((submitted_unless o s a).flush ≡ s.flush) × ((submitted_unless o s a).settings ≡ s.settings)
        × ((submitted_unless o s a).seats ≡ s.seats)
    go None = (refl, refl, refl)
    go (Some error) = (refl, refl, refl)
