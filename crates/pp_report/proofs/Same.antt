-- Two lines tell the same exactly where what they tell is one thing.
use Rattle.std.proofs.Common.{◌≡◌, ℕ, Bool, true, false, ◌==◌, ◌&&◌, arith, refl, ap, ◌∙◌}
use Rattle.std.proofs.lemmas.Bool.Decides.{nat_tests}
use Rattle.pp_model.specs.declared.refusals.Delay.{Delay}
use Rattle.pp_model.specs.declared.refusals.Delay.TheVariants.{NothingWaiting, NoRoom, InFlight, FlushHolds, LatchHeld}
use Rattle.pp_model.specs.declared.refusals.Delay.TheVariants.{FlushBusy}
use Rattle.pp_model.specs.declared.refusals.Cause.{Cause}
use Rattle.pp_model.specs.declared.refusals.Cause.TheVariants.{NoWorker, NotIdle, NotActing, NotAsked, NoErrand}
use Rattle.pp_model.specs.declared.refusals.Cause.TheVariants.{NotLeaving, NotHeld, NotEnded, NotDirty, NoFlushLeft}
use Rattle.pp_model.specs.declared.reply.Failure.{Failure}
use Rattle.pp_model.specs.declared.reply.Failure.TheVariants.{WriteFault, ReadFault, Misread}
use Rattle.pp_model.specs.declared.reply.Ending.{Ending}
use Rattle.pp_model.specs.declared.reply.Ending.TheVariants.{Done, Gone}
use Rattle.pp_model.specs.declared.reply.Reply.{Reply}
use Rattle.pp_model.specs.declared.reply.Reply.TheVariants.{Taken, Hit, MustRead, MustWrite, Failed, Loaded, Did}
use Rattle.pp_model.specs.declared.reply.Reply.TheVariants.{Latched, Unlatched, Finished, Flushing, Flushed, NotNow, OffPlan}
use Rattle.pp_model.specs.contracts.reply.ReplyPartialEq.TheImpl as replies
use Rattle.pp_report.specs.declared.line.Told.{Told}
use Rattle.pp_report.specs.declared.line.Told.TheVariants.{Queued, Answer}
use Rattle.pp_report.specs.Sameness.{same_flag, same_failure, same_ending, same_delay, same_cause, same_reply, same_told}

pub equal : (m n : ℕ) → (m == n) ≡ true → m ≡ n
equal m n e = grind (arith, nat_tests)

pub itself : (n : ℕ) → (n == n) ≡ true
itself n = grind (arith, nat_tests)

pub two : (a b : Bool) → (a && b) ≡ true → (a ≡ true) × (b ≡ true)
two true b e = (refl, e)
two false b e = absurd cc

pub both : (a b : Bool) → a ≡ true → b ≡ true → (a && b) ≡ true
both a b p q = rw (p, q) refl

flag_is : (x y : Bool) → same_flag x y ≡ true → x ≡ y
flag_is true true e = refl
flag_is false false e = refl
flag_is true false e = absurd cc
flag_is false true e = absurd cc

failure_is : (x y : Failure) → same_failure x y ≡ true → x ≡ y
failure_is WriteFault WriteFault e = refl
failure_is ReadFault ReadFault e = refl
failure_is Misread Misread e = refl
failure_is _ _ e = absurd cc

ending_is : (x y : Ending) → same_ending x y ≡ true → x ≡ y
ending_is Done Done e = refl
ending_is Gone Gone e = refl
ending_is _ _ e = absurd cc

delay_is : (x y : Delay) → same_delay x y ≡ true → x ≡ y
delay_is NothingWaiting NothingWaiting e = refl
delay_is NoRoom NoRoom e = refl
delay_is InFlight InFlight e = refl
delay_is FlushHolds FlushHolds e = refl
delay_is LatchHeld LatchHeld e = refl
delay_is FlushBusy FlushBusy e = refl
delay_is _ _ e = absurd cc

cause_is : (x y : Cause) → same_cause x y ≡ true → x ≡ y
cause_is NoWorker NoWorker e = refl
cause_is NotIdle NotIdle e = refl
cause_is NotActing NotActing e = refl
cause_is NotAsked NotAsked e = refl
cause_is NoErrand NoErrand e = refl
cause_is NotLeaving NotLeaving e = refl
cause_is NotHeld NotHeld e = refl
cause_is NotEnded NotEnded e = refl
cause_is NotDirty NotDirty e = refl
cause_is NoFlushLeft NoFlushLeft e = refl
cause_is _ _ e = absurd cc

pub reply_is : (x y : Reply) → same_reply x y ≡ true → x ≡ y
reply_is (Taken k) (Taken j) e = ap (λ n. Taken n) (equal k j e)
reply_is (Hit f m) (Hit g n) e =
    let (a, b) = two (f == g) (m == n) e in ap (λ k. Hit k m) (equal f g a) ∙ ap (λ k. Hit g k) (equal m n b)
reply_is (MustRead f) (MustRead g) e = ap (λ n. MustRead n) (equal f g e)
reply_is (MustWrite f v) (MustWrite g w) e =
    let (a, b) = two (f == g) (v == w) e in
    ap (λ k. MustWrite k v) (equal f g a) ∙ ap (λ k. MustWrite g k) (equal v w b)
reply_is (Failed x) (Failed y) e = ap (λ z. Failed z) (failure_is x y e)
reply_is (Loaded m) (Loaded n) e = ap (λ k. Loaded k) (equal m n e)
reply_is Did Did e = refl
reply_is (Latched m) (Latched n) e = ap (λ k. Latched k) (equal m n e)
reply_is (Unlatched m) (Unlatched n) e = ap (λ k. Unlatched k) (equal m n e)
reply_is (Finished x) (Finished y) e = ap (λ z. Finished z) (ending_is x y e)
reply_is (Flushing m) (Flushing n) e = ap (λ k. Flushing k) (equal m n e)
reply_is (Flushed x) (Flushed y) e = ap (λ z. Flushed z) (flag_is x y e)
reply_is (NotNow x) (NotNow y) e = ap (λ z. NotNow z) (delay_is x y e)
reply_is (OffPlan x) (OffPlan y) e = ap (λ z. OffPlan z) (cause_is x y e)
reply_is _ _ e = absurd cc

pub same_told_is : (x y : Told) → same_told x y ≡ true → x ≡ y
same_told_is Queued Queued e = refl
same_told_is (Answer r) (Answer q) e = ap (λ z. Answer z) (reply_is r q e)
same_told_is Queued (Answer q) e = absurd cc
same_told_is (Answer r) Queued e = absurd cc

flag_same : (x : Bool) → same_flag x x ≡ true
flag_same true = refl
flag_same false = refl

failure_same : (x : Failure) → same_failure x x ≡ true
failure_same WriteFault = refl
failure_same ReadFault = refl
failure_same Misread = refl

ending_same : (x : Ending) → same_ending x x ≡ true
ending_same Done = refl
ending_same Gone = refl

delay_same : (x : Delay) → same_delay x x ≡ true
delay_same NothingWaiting = refl
delay_same NoRoom = refl
delay_same InFlight = refl
delay_same FlushHolds = refl
delay_same LatchHeld = refl
delay_same FlushBusy = refl

cause_same : (x : Cause) → same_cause x x ≡ true
cause_same NoWorker = refl
cause_same NotIdle = refl
cause_same NotActing = refl
cause_same NotAsked = refl
cause_same NoErrand = refl
cause_same NotLeaving = refl
cause_same NotHeld = refl
cause_same NotEnded = refl
cause_same NotDirty = refl
cause_same NoFlushLeft = refl

pub reply_same : (x : Reply) → same_reply x x ≡ true
reply_same (Taken k) = itself k
reply_same (Hit f m) = both (f == f) (m == m) (itself f) (itself m)
reply_same (MustRead f) = itself f
reply_same (MustWrite f v) = both (f == f) (v == v) (itself f) (itself v)
reply_same (Failed x) = failure_same x
reply_same (Loaded m) = itself m
reply_same Did = refl
reply_same (Latched m) = itself m
reply_same (Unlatched m) = itself m
reply_same (Finished x) = ending_same x
reply_same (Flushing m) = itself m
reply_same (Flushed x) = flag_same x
reply_same (NotNow x) = delay_same x
reply_same (OffPlan x) = cause_same x

pub same_told_same : (x : Told) → same_told x x ≡ true
same_told_same Queued = refl
same_told_same (Answer r) = reply_same r

-- What the derived `==` computes of two replies.
flags : (x y : Bool) → replies.eq-value.it (Flushed x) (Flushed y) ≡ same_flag x y
flags true true = refl
flags false false = refl
flags _ _ = refl

failures : (x y : Failure) → replies.eq-value.it (Failed x) (Failed y) ≡ same_failure x y
failures WriteFault WriteFault = refl
failures ReadFault ReadFault = refl
failures Misread Misread = refl
failures _ _ = refl

endings : (x y : Ending) → replies.eq-value.it (Finished x) (Finished y) ≡ same_ending x y
endings Done Done = refl
endings Gone Gone = refl
endings _ _ = refl

delays : (x y : Delay) → replies.eq-value.it (NotNow x) (NotNow y) ≡ same_delay x y
delays NothingWaiting NothingWaiting = refl
delays NoRoom NoRoom = refl
delays InFlight InFlight = refl
delays FlushHolds FlushHolds = refl
delays LatchHeld LatchHeld = refl
delays FlushBusy FlushBusy = refl
delays _ _ = refl

causes : (x y : Cause) → replies.eq-value.it (OffPlan x) (OffPlan y) ≡ same_cause x y
causes NoWorker NoWorker = refl
causes NotIdle NotIdle = refl
causes NotActing NotActing = refl
causes NotAsked NotAsked = refl
causes NoErrand NoErrand = refl
causes NotLeaving NotLeaving = refl
causes NotHeld NotHeld = refl
causes NotEnded NotEnded = refl
causes NotDirty NotDirty = refl
causes NoFlushLeft NoFlushLeft = refl
causes _ _ = refl

pub reply_eq : (r q : Reply) → replies.eq-value.it r q ≡ same_reply r q
reply_eq (Taken k) (Taken j) = refl
reply_eq (Hit f m) (Hit g n) = refl
reply_eq (MustRead f) (MustRead g) = refl
reply_eq (MustWrite f v) (MustWrite g w) = refl
reply_eq (Failed x) (Failed y) = failures x y
reply_eq (Loaded m) (Loaded n) = refl
reply_eq Did Did = refl
reply_eq (Latched m) (Latched n) = refl
reply_eq (Unlatched m) (Unlatched n) = refl
reply_eq (Finished x) (Finished y) = endings x y
reply_eq (Flushing m) (Flushing n) = refl
reply_eq (Flushed x) (Flushed y) = flags x y
reply_eq (NotNow x) (NotNow y) = delays x y
reply_eq (OffPlan x) (OffPlan y) = causes x y
reply_eq _ _ = refl
