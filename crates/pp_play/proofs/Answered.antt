-- The lines of cues whatever the hands have.
use Rattle.std.proofs.Common.{◌≡◌, ◌∙◌, ℕ, suc, ◌+◌, ◌<◌, ◌≤◌, true, Option, Some, None, List, [], ◌∷◌, ◌++◌}
use Rattle.std.proofs.Common.{length, drop, drop-cons, append_assoc, append-nil, get_or, add-one, refl, sym, ap, subst, arith}
use Rattle.std.specs.Prelude.{slice_set, slice_get, nat_lt, unwrap_or}
use Rattle.std.specs.Option.{is_some}
use Rattle.std.proofs.lemmas.Bool.{false≢true}
use Rattle.std.proofs.lemmas.List.{drop_all, get_or-set_same, length-set, set-get_or}
use Rattle.pp_model.specs.Pool.{State}
use Rattle.pp_model.specs.Moves.{reply_of}
use Rattle.pp_device.specs.Image.{body_of}
use Rattle.pp_vault.specs.declared.refusal.Refusal.{Refusal}
use Rattle.pp_vault.specs.declared.refusal.Refusal.TheVariants.{Stranger}
use Rattle.pp_vault.specs.declared.guards.Guard.{Guard}
use Rattle.pp_vault.specs.declared.guards.Guard.TheVariants as guard
use Rattle.pp_vault.specs.declared.guards.ReadGuard.{ReadGuard}
use Rattle.pp_vault.specs.declared.guards.WriteGuard.{WriteGuard}
use Rattle.pp_vault.specs.declared.stage.Hand.{Hand}
use Rattle.pp_vault.specs.declared.hands.Hands.{Hands}
use Rattle.pp_vault.specs.Calls.{refusal_in}
use Rattle.pp_vault.specs.Holding.{placed}
use Rattle.pp_vault.specs.Looks as looks
use Rattle.pp_vault.specs.Parts.{Parts}
use Rattle.pp_vault.specs.StandsFor.{StandsFor, IsKept}
use Rattle.pp_script.specs.declared.cue.Cue.{Cue}
use Rattle.pp_script.specs.declared.cue.Cue.TheVariants.{Device}
use Rattle.pp_script.specs.declared.cue.Cue.TheVariants.{FlushDevice, Write, Look}
use Rattle.pp_play.specs.declared.line.Line.{Line}
use Rattle.pp_play.specs.declared.line.Line.TheVariants.{Did, Refused, Wrote, Looked, NoLatch}
use Rattle.pp_play.specs.Plays.{is_write, is_look, asks_byte, Tells, ComesTo}
use Rattle.pp_play.specs.Exact.{refusal_to, guards_by, guards_of, Lets, first_of, Plays}
use Rattle.pp_play.specs.AnyHands.{move_of, errand_by, errand_refusal, IsWriteLine, IsLookLine}
use Rattle.pp_play.specs.AnyHands.{IsLineWith, Answers, AnswersAll, AnswersFrom, IsStrangers, IsHandLine, IsHandsLine}
use Rattle.pp_play.specs.AnyHands.{told_why, IsTold}
use Rattle.pp_play.specs.Calling.{tells_answer}
use Rattle.pp_play.specs.Doing.{cue_worker}
use Rattle.pp_play.specs.FirstBytes.{line_of_first, WritesInto, SeesWith}
use Rattle.pp_play.proofs.AllHands.{past}
use Rattle.pp_play.proofs.Asked.{same}
use Rattle.pp_play.proofs.Exactly.{unrefused}

-- ---- cues of bytes

pub write_asks : (cue : Cue) → is_write cue ≡ true → asks_byte cue ≡ true
write_asks (Write w slot byte) e = refl
write_asks cue e = absurd (false≢true e)

pub look_asks : (cue : Cue) → is_look cue ≡ true → asks_byte cue ≡ true
look_asks (Look w slot) e = refl
look_asks cue e = absurd (false≢true e)

-- ---- a line as it is told

-- A line that is told of a cue comes to the same.
pub told_comes : (old mid : Parts) (cue : Cue) (line told : Line) → ComesTo old cue line mid → IsTold mid cue line told
    → ComesTo old cue told mid
told_comes old mid cue (Did m r) told comes is = subst (λ l. ComesTo old cue l mid) (sym is) comes
told_comes old mid cue (Refused asked why) told comes is = λ s st.
    let c = comes s st in (
      c.0,
      subst (λ l. Tells s cue l c.0) (sym (is c.0 c.2)) c.1,
      c.2,
    )
told_comes old mid cue Wrote told comes is = subst (λ l. ComesTo old cue l mid) (sym is) comes
told_comes old mid cue (Looked byte) told comes is = subst (λ l. ComesTo old cue l mid) (sym is) comes
told_comes old mid cue NoLatch told comes is = subst (λ l. ComesTo old cue l mid) (sym is) comes

-- Where the tokens at hand tell the core's refusal, it is told so again.
why_same : (s : State) (cue : Cue) (why : Refusal) → refusal_to s cue ≡ Some why → told_why s (move_of cue) why ≡ why
why_same s (Device w) why e = refl
why_same s FlushDevice why e = refl
why_same s (Write w slot byte) why e = refl
why_same s (Look w slot) why e = refl
why_same s cue why e = ap (λ (o : Option Refusal). unwrap_or o Stranger) e

-- A line that is exact where the hands fit is told as it is.
pub told_same : (old mid : Parts) (hands left : Hands) (cue : Cue) (line told : Line) → IsKept old
    → Plays old hands cue line mid left → IsTold mid cue line told → told ≡ line
told_same old mid hands left cue (Did m r) told k plays is = is
told_same old mid hands left cue (Refused asked why) told k plays is =
    let c = plays.comes k.state k.stands in
    let here = subst (StandsFor mid) c.1.1 c.2 in
    is k.state here
    ∙ ap (λ (r : Refusal). Refused asked r) (why_same k.state cue why (plays.exact k.state k.stands))
told_same old mid hands left cue Wrote told k plays is = is
told_same old mid hands left cue (Looked byte) told k plays is = is
told_same old mid hands left cue NoLatch told k plays is = is

module _ (old mid : Parts) (hands left : Hands) (told : Line) (s : State) (st : StandsFor old s) where
  abbrev Is : Cue → Type 0
  Is cue = IsLineWith old s hands left cue told

  -- A line that is told is exact, whatever the hands have.
  pub told_exact : (cue : Cue) (line : Line) → ComesTo old cue line mid → IsHandsLine old hands left cue line
      → IsTold mid cue line told → Is cue
  told_exact (Write w slot byte) (Did m r) comes own is = absurd own
  told_exact (Write w slot byte) (Refused asked why) comes own is = absurd own
  told_exact (Write w slot byte) (Looked b) comes own is = absurd own
  told_exact (Write w slot byte) line comes own is =
      subst (λ l. IsLineWith old s hands left (Write w slot byte) l) (sym is) own
  told_exact (Look w slot) (Did m r) comes own is = absurd (own s st)
  told_exact (Look w slot) (Refused asked why) comes own is = absurd (own s st)
  told_exact (Look w slot) Wrote comes own is = absurd (own s st)
  told_exact (Look w slot) line comes own is =
      subst (λ l. IsLineWith old s hands left (Look w slot) l) (sym is) (own s st)
  told_exact (Device w) (Refused asked why) comes own is =
      let c = comes s st in
      let here = subst (StandsFor mid) c.1.1 c.2 in
      subst (λ l. IsLineWith old s hands left (Device w) l) (sym (is s here)) own
  told_exact FlushDevice (Refused asked why) comes own is =
      let c = comes s st in
      let here = subst (StandsFor mid) c.1.1 c.2 in
      subst (λ l. IsLineWith old s hands left FlushDevice l) (sym (is s here)) own
  told_exact cue (Did m r) comes own is =
      let c = comes s st in
      let allowed : refusal_in (reply_of s m) ≡ None = ap refusal_in c.1.1 ∙ c.1.2 in
      subst (λ l. IsLineWith old s hands left cue l) (sym is) (unrefused s st.core.reached m allowed cue c.1.0)
  told_exact cue (Refused asked why) comes own is =
      let c = comes s st in
      let here = subst (StandsFor mid) c.1.1 c.2 in
      subst (λ l. IsLineWith old s hands left cue l) (sym (is s here)) refl
  told_exact cue Wrote comes own is = absurd (false≢true (comes s st).1.0)
  told_exact cue (Looked b) comes own is = absurd (false≢true (comes s st).1.0)
  told_exact cue NoLatch comes own is = absurd (false≢true (comes s st).1.0)

-- ---- from the hand of one worker to all hands

pub lifted : (v : Parts) (hands left : Hands) (w : ℕ) (a b : Option Hand) → placed hands.workers w ≡ a
    → placed left.workers w ≡ b → (cue : Cue) → cue_worker cue ≡ Some w → (line : Line) → IsHandLine v a b cue line
    → IsHandsLine v hands left cue line
lifted v hands left w a b was now (Device u) is (Refused asked why) h =
    h ∙ ap (λ (o : Option Hand). errand_refusal (errand_by o)) (sym (ap (placed hands.workers) (same u w is) ∙ was))
lifted v hands left w a b was now (Write u slot byte) is line h =
    let before : guards_by a ≡ guards_of hands u = sym (ap guards_by (ap (placed hands.workers) (same u w is) ∙ was)) in
    let after : guards_by b ≡ guards_of left u = sym (ap guards_by (ap (placed left.workers) (same u w is) ∙ now)) in
    subst (λ g. IsWriteLine slot byte g (guards_of left u) line) before
    (subst (λ g. IsWriteLine slot byte (guards_by a) g line) after h)
lifted v hands left w a b was now (Look u slot) is line h = λ s st.
    let before : guards_by a ≡ guards_of hands u = sym (ap guards_by (ap (placed hands.workers) (same u w is) ∙ was)) in
    let after : guards_by b ≡ guards_of left u = sym (ap guards_by (ap (placed left.workers) (same u w is) ∙ now)) in
    subst (λ g. IsLookLine v s slot g (guards_of left u) line) before
    (subst (λ g. IsLookLine v s slot (guards_by a) g line) after (h s st))
lifted v hands left w a b was now FlushDevice is line h = absurd (false≢true (ap is_some is))
lifted v hands left w a b was now cue is line h = tt

-- The hand that was put back is in its place.
pub joined_there : (workers after : List (Option Hand)) (w : ℕ) (hand left : Hand) → placed workers w ≡ Some hand
    → after ≡ slice_set (slice_set workers w None) w (Some left) → placed after w ≡ Some left
joined_there workers after w hand left there joined =
    let low = past workers w hand (nat_lt w (length workers)) refl there in
    ap (λ ws. placed ws w) joined
    ∙ get_or-set_same (slice_set workers w None) w (Some left) None
    (omega (arith, low, length-set workers w None))

-- ---- devices

-- An answer that was taken is no refusal.
pub taken_answer : (line : Line) → tells_answer line ≡ true → IsStrangers line
taken_answer (Did m r) e = tt
taken_answer (Refused asked why) e = absurd (false≢true e)
taken_answer Wrote e = tt
taken_answer (Looked byte) e = tt
taken_answer NoLatch e = tt

-- An errand at hand that isn't taken is a stranger's.
pub errand_line : (v : Parts) (hand : Hand) (b : Option Hand) (w : ℕ) (line : Line) → errand_by (Some hand) ≡ true
    → IsStrangers line → IsHandLine v (Some hand) b (Device w) line
errand_line v hand b w (Did m r) here h = tt
errand_line v hand b w (Refused asked why) here h = h ∙ sym (ap errand_refusal here)
errand_line v hand b w Wrote here h = tt
errand_line v hand b w (Looked byte) here h = tt
errand_line v hand b w NoLatch here h = tt

pub flush_line : (v : Parts) (hands left : Hands) (line : Line) → is_some hands.flushing ≡ true → IsStrangers line
    → IsHandsLine v hands left FlushDevice line
flush_line v hands left (Did m r) here h = tt
flush_line v hands left (Refused asked why) here h = h ∙ sym (ap errand_refusal here)
flush_line v hands left Wrote here h = tt
flush_line v hands left (Looked byte) here h = tt
flush_line v hands left NoLatch here h = tt

-- ---- bytes

stays_put : (places : List (Option Guard)) (slot : ℕ) (g : Guard) → placed places slot ≡ Some g
    → slice_set places slot (Some g) ≡ places
stays_put places slot g e = ap (λ o. slice_set places slot o) (sym e) ∙ set-get_or places slot None

pub write_line : (slot byte : ℕ) (old now : List (Option Guard)) (g h : Guard) (line : Line) → WritesInto byte g line h
    → placed old slot ≡ Some g → now ≡ slice_set old slot (Some h) → IsWriteLine slot byte old now line
write_line slot byte old now (guard.Write g) h Wrote into there is =
    record { writer = g; there = there; now = is ∙ ap (λ x. slice_set old slot (Some x)) into }
write_line slot byte old now (guard.Write g) h NoLatch into there is =
    is ∙ ap (λ x. slice_set old slot (Some x)) into.0 ∙ stays_put old slot (guard.Write g) there
write_line slot byte old now (guard.Pin g) h NoLatch into there is =
    is ∙ ap (λ x. slice_set old slot (Some x)) into ∙ stays_put old slot (guard.Pin g) there
write_line slot byte old now (guard.Read g) h NoLatch into there is =
    is ∙ ap (λ x. slice_set old slot (Some x)) into ∙ stays_put old slot (guard.Read g) there
write_line slot byte old now (guard.Bundle g) h NoLatch into there is =
    is ∙ ap (λ x. slice_set old slot (Some x)) into ∙ stays_put old slot (guard.Bundle g) there
write_line slot byte old now g h line into there is = absurd into

pub look_line : (v : Parts) (s : State) (slot : ℕ) (old now : List (Option Guard)) (g : Guard) (line : Line)
    → SeesWith v s g line → placed old slot ≡ Some g → now ≡ slice_set old slot (Some g)
    → IsLookLine v s slot old now line
look_line v s slot old now g (Looked byte) sees there is = (
  is ∙ stays_put old slot g there,
  (sees.0, subst (λ o. Lets v s o sees.0) (sym there) sees.1, sees.2),
)
look_line v s slot old now g NoLatch sees there is = is ∙ stays_put old slot g there
look_line v s slot old now g (Did m r) sees there is = absurd sees
look_line v s slot old now g (Refused c why) sees there is = absurd sees
look_line v s slot old now g Wrote sees there is = absurd sees

by_first : (v : Parts) (s : State) (g : Guard) (line : Line) (image : List ℕ) (o : Option ℕ) → first_of image ≡ o
    → line ≡ line_of_first o → Lets v s (Some g) image → SeesWith v s g line
by_first v s g line image None e is lets = subst (λ l. SeesWith v s g l) (sym is) tt
by_first v s g line image (Some byte) e is lets = subst (λ l. SeesWith v s g l) (sym is) (image, lets, e)

pub sees_read : (v : Parts) (s : State) → StandsFor v s → (g : ReadGuard) (line : Line) (body : List ℕ)
    → looks.ShowsBody v g.page body → line ≡ line_of_first (slice_get body 0) → SeesWith v s (guard.Read g) line
sees_read v s st g line body shown is =
    by_first v s (guard.Read g) line shown.image (first_of shown.image) refl
    (is ∙ ap (λ l. line_of_first (slice_get l 0)) shown.body_is) (shown.shown.copy s st)

pub sees_write : (v : Parts) (s : State) (g : WriteGuard) (line : Line) (body : List ℕ) → body ≡ body_of g.image
    → line ≡ line_of_first (slice_get body 0) → SeesWith v s (guard.Write g) line
sees_write v s g line body same is =
    by_first v s (guard.Write g) line g.image (first_of g.image) refl
    (is ∙ ap (λ l. line_of_first (slice_get l 0)) same) refl

-- ---- a script, cue by cue

-- From the start lines were told, up to these parts and hands; what is left goes on from there.
pub record AnsweredTo (old : Parts) (hands : Hands) (cues : List Cue) (before : List Line) (mid : Parts) (held : Hands)
    (left : List Cue) (now : List Line) : Type 0 where
  pub told : List Line
  pub lines : now ≡ before ++ told
  pub goes : (rest : List Line) (new : Parts) (end : Hands) → AnswersAll mid held left rest new end
      → AnswersAll old hands cues (told ++ rest) new end

pub answers_none : (old : Parts) (hands : Hands) (cues : List Cue) (before : List Line)
    → AnsweredTo old hands cues before old hands cues before
answers_none old hands cues before =
    record { told = []; lines = sym (append-nil before); goes = λ rest new end h. h }

-- One cue more.
pub answers_on : (old : Parts) (hands : Hands) (cues : List Cue) (before : List Line) (f : Parts) (h : Hands)
    (g : Parts) (k : Hands) (now : List Line) (line : Line) (i : ℕ) (cue d : Cue) → i < length cues
    → cue ≡ get_or cues i d → AnsweredTo old hands cues before f h (drop i cues) now → Answers f h cue line g k
    → AnsweredTo old hands cues before g k (drop (i + 1) cues) (now ++ line ∷ [])
answers_on old hands cues before f h g k now line i cue d lt is w answers =
    let left : drop i cues ≡ cue ∷ drop (i + 1) cues =
    rw add-one (drop-cons cues i d lt ∙ ap (λ (c : Cue). c ∷ drop (suc i) cues) (sym is)) in
    record {
      told = w.told ++ line ∷ [];
      lines = ap (λ (ls : List Line). ls ++ line ∷ []) w.lines ∙ append_assoc before w.told (line ∷ []);
      goes = λ more new end rest.
          subst (λ (ls : List Line). AnswersAll old hands cues ls new end) (sym (append_assoc w.told (line ∷ []) more))
          (w.goes (line ∷ more) new end
          (subst (λ (cs : List Cue). AnswersAll f h cs (line ∷ more) new end) (sym left) (g, k, answers, rest)));
    }

-- None is left.
pub all_answered : (old : Parts) (hands : Hands) (cues : List Cue) (before : List Line) (new : Parts) (held : Hands)
    (now : List Line) (i : ℕ) → length cues ≤ i → AnsweredTo old hands cues before new held (drop i cues) now
    → AnswersFrom old hands cues before now new held
all_answered old hands cues before new held now i le w =
    let end : AnswersAll new held (drop i cues) [] new held =
    subst (λ (cs : List Cue). AnswersAll new held cs [] new held) (sym (drop_all i cues le)) (refl, refl) in (
      w.told,
      w.lines,
      subst (λ (ls : List Line). AnswersAll old hands cues ls new held) (append-nil w.told) (w.goes [] new held end),
    )
