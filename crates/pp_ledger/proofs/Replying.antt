-- What a ledger answers fits what was asked.
use Rattle.std.proofs.Common.{◌≡◌, ◌∙◌, Option, Some, None, refl, sym, ap, subst, not}
use Rattle.std.proofs.lemmas.Bool.{false≢true}
use Rattle.std.specs.Prelude.{IfSome}
use Rattle.std.specs.Option.{is_some}
use Rattle.pp_model.specs.declared.moves.Move.{Move}
use Rattle.pp_model.specs.declared.reply.Reply.{Reply}
use Rattle.pp_model.specs.declared.event.Event.{Event}
use Rattle.pp_model.specs.Pool.{State}
use Rattle.pp_vault.specs.Parts as vault
use Rattle.pp_vault.specs.StandsFor.{StandsFor}
use Rattle.pp_pool.specs.declared.request.Request.{Request}
use Rattle.pp_pool.specs.declared.response.BookAnswer.{BookAnswer}
use Rattle.pp_pool.specs.declared.response.BookAnswer.TheVariants.{Acts, Idle, Leaves, Pinned, Shared, Exclusive, Away}
use Rattle.pp_pool.specs.declared.response.BookAnswer.TheVariants.{Opened, Joined, Flushed, No}
use Rattle.pp_pool.specs.Requests.{call_of}
use Rattle.pp_pool.specs.Performing.{ComesTo, DoesUnless, TellsOf, is_no}
use Rattle.pp_pool.specs.Replies.{IsEventOf, TokensFit, Replies}
use Rattle.pp_pool.proofs.Fitting.{event_fits}
use Rattle.pp_pool.proofs.Sending.{slot_fits}
use Rattle.pp_pool.proofs.Noted.{refused_call}
use Rattle.pp_ledger.specs.Segments.{Segment, with_event}
use Rattle.pp_ledger.specs.Ledgers.{Parts, IsLedger}
use Rattle.pp_ledger.specs.Calls.{Performs}
use Rattle.pp_ledger.proofs.Going.{ledger_of}
use Rattle.pp_ledger.proofs.Performed.{event_in, event_is, kept_plans, performed_then}

-- Something is told exactly where the answer is no refusal.
tells_done : (v new : vault.Parts) (asked : Request) (s : State) → StandsFor v s → (out : BookAnswer)
    → ComesTo v asked out new → (done : Option (Move × Reply)) → TellsOf v asked out done
    → is_some done ≡ not (is_no out)
tells_done v new asked s st out h None tells = sym (ap not tells)
tells_done v new asked s st (No back why) h (Some did) tells =
    let none = (refused_call s (call_of v asked s) why (h.refuses s st)).1 in
    absurd (false≢true (ap is_some (sym none ∙ tells s st)))
tells_done v new asked s st (Acts x) h (Some did) tells = refl
tells_done v new asked s st (Idle chair) h (Some did) tells = refl
tells_done v new asked s st (Leaves x) h (Some did) tells = refl
tells_done v new asked s st (Pinned x g) h (Some did) tells = refl
tells_done v new asked s st (Opened x g) h (Some did) tells = refl
tells_done v new asked s st (Joined x) h (Some did) tells = refl
tells_done v new asked s st (Shared x g) h (Some did) tells = refl
tells_done v new asked s st (Exclusive x g) h (Some did) tells = refl
tells_done v new asked s st (Away errand) h (Some did) tells = refl
tells_done v new asked s st (Flushed clean) h (Some did) tells = refl

some_mapped : (o : Option (Move × Reply)) → is_some (event_in o) ≡ is_some o
some_mapped None = refl
some_mapped (Some t) = refl

module _ (l : Parts) (asked : Request) (out : BookAnswer) (v : vault.Parts) (done : Option (Move × Reply))
    (comes : ComesTo l.vault asked out v) (does : DoesUnless l.vault asked out v) (tells : TellsOf l.vault asked out done)
    (e : Option Event) (is : e ≡ event_in done) (fit : TokensFit asked out) where
  pub replies : (s : State) → StandsFor l.vault s → Replies asked (record { event = e; answer = out })
  replies s st = record {
    done = ap is_some is ∙ some_mapped done ∙ tells_done l.vault v asked s st out comes done tells;
    event =
        subst (λ x. IfSome x (IsEventOf asked)) (sym (event_is l asked out v done comes does tells e is s st))
        (event_fits l.vault asked s);
    tokens = fit;
    slot = slot_fits l.vault v s st asked out comes fit;
  }

  performs : IsLedger l
      → Performs l asked (record { event = e; answer = out }) (ledger_of v (with_event l.segment e))
  performs k = record {
    answer = comes;
    plans = kept_plans l.vault v asked out comes does k.present k.segment.stands;
    event = λ o s h. event_is l asked out v done comes does tells e is s h.stands;
    parts = refl;
    segment = performed_then l asked out v done comes does tells e is;
    fits = replies k.present k.segment.stands;
  }

  -- The same of the segment that was left.
  pub performs_is : (g : Segment) → g ≡ with_event l.segment e → IsLedger l
      → Performs l asked (record { event = e; answer = out }) (ledger_of v g)
  performs_is g same k =
      subst (λ x. Performs l asked (record { event = e; answer = out }) (ledger_of v x)) (sym same) (performs k)
