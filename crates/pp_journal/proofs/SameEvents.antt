-- The derived `==` tells of two events whether they are one.
use Rattle.std.proofs.Common.{◌≡◌, ◌∙◌, ℕ, Bool, true, false, ◌==◌, ◌&&◌, refl, sym, ap, arith}
use Rattle.std.specs.Prelude.{◌↔◌}
use Rattle.std.proofs.lemmas.Bool.{false≢true}
use Rattle.std.proofs.lemmas.Bool.Decides.{nat_tests}
use Rattle.pp_model.specs.declared.moves.Came.TheVariants.{Fault, Image}
use Rattle.pp_model.specs.declared.moves.Move.{Move}
use Rattle.pp_model.specs.declared.moves.Move.TheVariants.{Take, Fix, WriteDone, ReadDone, Unfix, Latch, Unlatch}
use Rattle.pp_model.specs.declared.moves.Move.TheVariants.{Choose, Unwind, Finish, FlushBegin, FlushDone}
use Rattle.pp_model.specs.declared.refusals.Delay.{Delay}
use Rattle.pp_model.specs.declared.refusals.Delay.TheVariants.{NothingWaiting, NoRoom, InFlight, FlushHolds, LatchHeld}
use Rattle.pp_model.specs.declared.refusals.Delay.TheVariants.{FlushBusy}
use Rattle.pp_model.specs.declared.refusals.Cause.{Cause}
use Rattle.pp_model.specs.declared.refusals.Cause.TheVariants.{NoWorker, NotIdle, NotActing, NotAsked, NoErrand}
use Rattle.pp_model.specs.declared.refusals.Cause.TheVariants.{NotLeaving, NotHeld, NotEnded, NotDirty, NoFlushLeft}
use Rattle.pp_model.specs.declared.reply.Failure.{Failure}
use Rattle.pp_model.specs.declared.reply.Failure.TheVariants.{WriteFault, ReadFault, Misread}
use Rattle.pp_model.specs.declared.reply.Ending.{Ending}
use Rattle.pp_model.specs.declared.reply.Ending.TheVariants.{Done, Gone}
use Rattle.pp_model.specs.declared.reply.Reply.{Reply}
use Rattle.pp_model.specs.declared.reply.Reply.TheVariants.{Taken, Hit, MustRead, MustWrite, Failed, Loaded, Did}
use Rattle.pp_model.specs.declared.reply.Reply.TheVariants.{Latched, Unlatched, Finished, Flushing, Flushed, NotNow, OffPlan}
use Rattle.pp_model.specs.declared.event.Event.{Event}
use Rattle.pp_model.specs.declared.event.Event.TheVariants.{Submit, Step}
use Rattle.pp_model.specs.contracts.moves.MovePartialEq.TheImpl as moves
use Rattle.pp_model.specs.contracts.reply.ReplyPartialEq.TheImpl as replies
use Rattle.pp_model.specs.contracts.event.EventPartialEq.TheImpl as events

-- ---- numbers, and two tests

equal : (m n : ℕ) → (m == n) ≡ true → m ≡ n
equal m n e = grind (arith, nat_tests)

itself : (n : ℕ) → (n == n) ≡ true
itself n = grind (arith, nat_tests)

two : (a b : Bool) → (a && b) ≡ true → (a ≡ true) × (b ≡ true)
two true b e = (refl, e)
two false b e = absurd (false≢true e)

both : (a b : Bool) → a ≡ true → b ≡ true → (a && b) ≡ true
both a b p q = rw (p, q) refl

-- ---- replies

failed_is : (x y : Failure) → replies.eq-value.it (Failed x) (Failed y) ≡ true → Failed x ≡ Failed y
failed_is WriteFault WriteFault e = refl
failed_is ReadFault ReadFault e = refl
failed_is Misread Misread e = refl
failed_is _ _ e = absurd (false≢true e)

finished_is : (x y : Ending) → replies.eq-value.it (Finished x) (Finished y) ≡ true → Finished x ≡ Finished y
finished_is Done Done e = refl
finished_is Gone Gone e = refl
finished_is _ _ e = absurd (false≢true e)

flushed_is : (x y : Bool) → replies.eq-value.it (Flushed x) (Flushed y) ≡ true → Flushed x ≡ Flushed y
flushed_is true true e = refl
flushed_is false false e = refl
flushed_is _ _ e = absurd (false≢true e)

delay_is : (x y : Delay) → replies.eq-value.it (NotNow x) (NotNow y) ≡ true → NotNow x ≡ NotNow y
delay_is NothingWaiting NothingWaiting e = refl
delay_is NoRoom NoRoom e = refl
delay_is InFlight InFlight e = refl
delay_is FlushHolds FlushHolds e = refl
delay_is LatchHeld LatchHeld e = refl
delay_is FlushBusy FlushBusy e = refl
delay_is _ _ e = absurd (false≢true e)

cause_is : (x y : Cause) → replies.eq-value.it (OffPlan x) (OffPlan y) ≡ true → OffPlan x ≡ OffPlan y
cause_is NoWorker NoWorker e = refl
cause_is NotIdle NotIdle e = refl
cause_is NotActing NotActing e = refl
cause_is NotAsked NotAsked e = refl
cause_is NoErrand NoErrand e = refl
cause_is NotLeaving NotLeaving e = refl
cause_is NotHeld NotHeld e = refl
cause_is NotEnded NotEnded e = refl
cause_is NotDirty NotDirty e = refl
cause_is NoFlushLeft NoFlushLeft e = refl
cause_is _ _ e = absurd (false≢true e)

reply_is : (x y : Reply) → replies.eq-value.it x y ≡ true → x ≡ y
reply_is (Taken k) (Taken j) e = ap (λ n. Taken n) (equal k j e)
reply_is (Hit f m) (Hit g n) e =
    let (a, b) = two (f == g) (m == n) e in ap (λ k. Hit k m) (equal f g a) ∙ ap (λ k. Hit g k) (equal m n b)
reply_is (MustRead f) (MustRead g) e = ap (λ n. MustRead n) (equal f g e)
reply_is (MustWrite f v) (MustWrite g w) e =
    let (a, b) = two (f == g) (v == w) e in
    ap (λ k. MustWrite k v) (equal f g a) ∙ ap (λ k. MustWrite g k) (equal v w b)
reply_is (Failed x) (Failed y) e = failed_is x y e
reply_is (Loaded m) (Loaded n) e = ap (λ k. Loaded k) (equal m n e)
reply_is Did Did e = refl
reply_is (Latched m) (Latched n) e = ap (λ k. Latched k) (equal m n e)
reply_is (Unlatched m) (Unlatched n) e = ap (λ k. Unlatched k) (equal m n e)
reply_is (Finished x) (Finished y) e = finished_is x y e
reply_is (Flushing m) (Flushing n) e = ap (λ k. Flushing k) (equal m n e)
reply_is (Flushed x) (Flushed y) e = flushed_is x y e
reply_is (NotNow x) (NotNow y) e = delay_is x y e
reply_is (OffPlan x) (OffPlan y) e = cause_is x y e
reply_is _ _ e = absurd (false≢true e)

failed_same : (x : Failure) → replies.eq-value.it (Failed x) (Failed x) ≡ true
failed_same WriteFault = refl
failed_same ReadFault = refl
failed_same Misread = refl

finished_same : (x : Ending) → replies.eq-value.it (Finished x) (Finished x) ≡ true
finished_same Done = refl
finished_same Gone = refl

flushed_same : (x : Bool) → replies.eq-value.it (Flushed x) (Flushed x) ≡ true
flushed_same true = refl
flushed_same false = refl

delay_same : (x : Delay) → replies.eq-value.it (NotNow x) (NotNow x) ≡ true
delay_same NothingWaiting = refl
delay_same NoRoom = refl
delay_same InFlight = refl
delay_same FlushHolds = refl
delay_same LatchHeld = refl
delay_same FlushBusy = refl

cause_same : (x : Cause) → replies.eq-value.it (OffPlan x) (OffPlan x) ≡ true
cause_same NoWorker = refl
cause_same NotIdle = refl
cause_same NotActing = refl
cause_same NotAsked = refl
cause_same NoErrand = refl
cause_same NotLeaving = refl
cause_same NotHeld = refl
cause_same NotEnded = refl
cause_same NotDirty = refl
cause_same NoFlushLeft = refl

reply_same : (x : Reply) → replies.eq-value.it x x ≡ true
reply_same (Taken k) = itself k
reply_same (Hit f m) = both (f == f) (m == m) (itself f) (itself m)
reply_same (MustRead f) = itself f
reply_same (MustWrite f v) = both (f == f) (v == v) (itself f) (itself v)
reply_same (Failed x) = failed_same x
reply_same (Loaded m) = itself m
reply_same Did = refl
reply_same (Latched m) = itself m
reply_same (Unlatched m) = itself m
reply_same (Finished x) = finished_same x
reply_same (Flushing m) = itself m
reply_same (Flushed x) = flushed_same x
reply_same (NotNow x) = delay_same x
reply_same (OffPlan x) = cause_same x

-- ---- moves

move_is : (x y : Move) → moves.eq-value.it x y ≡ true → x ≡ y
move_is (Take w) (Take v) e = ap (λ n. Take n) (equal w v e)
move_is (Fix w p) (Fix v q) e =
    let (a, b) = two (w == v) (p == q) e in ap (λ k. Fix k p) (equal w v a) ∙ ap (λ k. Fix v k) (equal p q b)
move_is (WriteDone w true) (WriteDone v true) e =
    let (a, b) = two (w == v) true e in ap (λ k. WriteDone k true) (equal w v a)
move_is (WriteDone w false) (WriteDone v false) e =
    let (a, b) = two (w == v) true e in ap (λ k. WriteDone k false) (equal w v a)
move_is (WriteDone w true) (WriteDone v false) e = absurd (false≢true (two (w == v) false e).1)
move_is (WriteDone w false) (WriteDone v true) e = absurd (false≢true (two (w == v) false e).1)
move_is (ReadDone w Fault) (ReadDone v Fault) e =
    let (a, b) = two (w == v) true e in ap (λ k. ReadDone k Fault) (equal w v a)
move_is (ReadDone w (Image p s)) (ReadDone v (Image q t)) e =
    let (a, b) = two (w == v) ((p == q) && (s == t)) e in let (c, d) = two (p == q) (s == t) b in
    ap (λ k. ReadDone k (Image p s)) (equal w v a)
    ∙ (ap (λ k. ReadDone v (Image k s)) (equal p q c) ∙ ap (λ k. ReadDone v (Image q k)) (equal s t d))
move_is (ReadDone w Fault) (ReadDone v (Image q t)) e = absurd (false≢true (two (w == v) false e).1)
move_is (ReadDone w (Image p s)) (ReadDone v Fault) e = absurd (false≢true (two (w == v) false e).1)
move_is (Unfix w) (Unfix v) e = ap (λ n. Unfix n) (equal w v e)
move_is (Latch w) (Latch v) e = ap (λ n. Latch n) (equal w v e)
move_is (Unlatch w) (Unlatch v) e = ap (λ n. Unlatch n) (equal w v e)
move_is (Choose w p) (Choose v q) e =
    let (a, b) = two (w == v) (p == q) e in ap (λ k. Choose k p) (equal w v a) ∙ ap (λ k. Choose v k) (equal p q b)
move_is (Unwind w p) (Unwind v q) e =
    let (a, b) = two (w == v) (p == q) e in ap (λ k. Unwind k p) (equal w v a) ∙ ap (λ k. Unwind v k) (equal p q b)
move_is (Finish w) (Finish v) e = ap (λ n. Finish n) (equal w v e)
move_is (FlushBegin p) (FlushBegin q) e = ap (λ n. FlushBegin n) (equal p q e)
move_is (FlushDone true) (FlushDone true) e = refl
move_is (FlushDone false) (FlushDone false) e = refl
move_is _ _ e = absurd (false≢true e)

move_same : (x : Move) → moves.eq-value.it x x ≡ true
move_same (Take w) = itself w
move_same (Fix w p) = both (w == w) (p == p) (itself w) (itself p)
move_same (WriteDone w true) = both (w == w) true (itself w) refl
move_same (WriteDone w false) = both (w == w) true (itself w) refl
move_same (ReadDone w Fault) = both (w == w) true (itself w) refl
move_same (ReadDone w (Image p s)) =
    both (w == w) ((p == p) && (s == s)) (itself w) (both (p == p) (s == s) (itself p) (itself s))
move_same (Unfix w) = itself w
move_same (Latch w) = itself w
move_same (Unlatch w) = itself w
move_same (Choose w p) = both (w == w) (p == p) (itself w) (itself p)
move_same (Unwind w p) = both (w == w) (p == p) (itself w) (itself p)
move_same (Finish w) = itself w
move_same (FlushBegin p) = itself p
move_same (FlushDone true) = refl
move_same (FlushDone false) = refl

-- ---- events

event_is : (x y : Event) → events.eq-value.it x y ≡ true → x ≡ y
event_is (Submit k) (Submit j) e = ap (λ n. Submit n) (equal k j e)
event_is (Step d r) (Step m q) e =
    let (a, b) = two (moves.eq-value.it d m) (replies.eq-value.it r q) e in
    ap (λ z. Step z r) (move_is d m a) ∙ ap (λ z. Step m z) (reply_is r q b)
event_is (Submit k) (Step m q) e = absurd (false≢true e)
event_is (Step d r) (Submit j) e = absurd (false≢true e)

event_same : (x : Event) → events.eq-value.it x x ≡ true
event_same (Submit k) = itself k
event_same (Step d r) =
    both (moves.eq-value.it d d) (replies.eq-value.it r r) (move_same d) (reply_same r)

pub same_events : (x y : Event) → (events.eq-value.it x y ≡ true) ↔ (x ≡ y)
same_events x y =
    (event_is x y, λ same. ap (λ e. events.eq-value.it x e) (sym same) ∙ event_same x)
