-- What a site with a vault alone gives.
use Rattle.std.proofs.Common.{◌≡◌, Option}
use Rattle.pp_model.specs.declared.moves.Move.{Move}
use Rattle.pp_model.specs.declared.reply.Reply.{Reply}
use Rattle.pp_model.specs.declared.event.Event.{Event}
use Rattle.pp_vault.specs.Parts as vault
use Rattle.pp_vault.specs.StandsFor.{IsKept}
use Rattle.pp_pool.specs.declared.request.Request.{Request}
use Rattle.pp_pool.specs.declared.response.BookAnswer.{BookAnswer}
use Rattle.pp_pool.specs.Performing.{ComesTo, DoesUnless, TellsOf}
use Rattle.pp_pool.specs.Replies.{TokensFit, Replies}
use Rattle.pp_pool.proofs.Noted.{noted}
use Rattle.pp_ledger.specs.Segments.{empty_segment}
use Rattle.pp_ledger.specs.Ledgers.{Parts}
use Rattle.pp_ledger.specs.Sites.{Answers}
use Rattle.pp_ledger.proofs.Going.{ledger_of}
use Rattle.pp_ledger.proofs.Performed.{event_in, event_is, kept_plans}
use Rattle.pp_ledger.proofs.Replying.{replies}

-- The vault, with a segment of which nothing is asked.
abbrev alone : vault.Parts → Parts
alone v = ledger_of v (empty_segment 0)

module _ (v : vault.Parts) (k : IsKept v) (asked : Request) (out : BookAnswer) (new : vault.Parts)
    (done : Option (Move × Reply)) (comes : ComesTo v asked out new) (does : DoesUnless v asked out new)
    (tells : TellsOf v asked out done) (e : Option Event) (is : e ≡ event_in done) where
  pub answers : Answers v asked (record { event = e; answer = out }) new
  answers = record {
    answer = comes;
    event = event_is (alone v) asked out new done comes does tells e is;
    stands = (noted v new asked out done comes does tells).stands;
    plans = kept_plans v new asked out comes does k.state k.stands;
  }

  pub answers_fit : TokensFit asked out → Replies asked (record { event = e; answer = out })
  answers_fit fit = replies (alone v) asked out new done comes does tells e is fit k.state k.stands
