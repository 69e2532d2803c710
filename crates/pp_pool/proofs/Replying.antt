-- What is promised of a response by every site.
use Rattle.std.proofs.Common.{◌≡◌, ◌∙◌, true, false, Option, Some, None, refl, sym, ap, subst, not}
use Rattle.std.specs.Prelude.{IfSome, option_map, if◌then◌else◌}
use Rattle.std.specs.Option.{is_some}
use Rattle.pp_model.specs.declared.moves.Move.{Move}
use Rattle.pp_model.specs.declared.reply.Reply.{Reply}
use Rattle.pp_model.specs.declared.reply.Reply.TheVariants as reply
use Rattle.pp_model.specs.declared.event.Event.{Event}
use Rattle.pp_model.specs.declared.event.Event.TheVariants.{Step}
use Rattle.pp_model.specs.Pool.{State}
use Rattle.pp_model.specs.Moves.{reply_of, is_possible, is_refusal}
use Rattle.pp_vault.specs.Parts as vault
use Rattle.pp_vault.specs.StandsFor.{StandsFor}
use Rattle.pp_vault.specs.Calls.{Call, stranger, refused, asks, refusal_in, refusal_of, told}
use Rattle.pp_pool.specs.declared.request.Request.{Request}
use Rattle.pp_pool.specs.declared.response.BookAnswer.{BookAnswer}
use Rattle.pp_pool.specs.declared.response.BookAnswer.TheVariants.{Acts, Idle, Leaves, Pinned, Shared, Exclusive, Away}
use Rattle.pp_pool.specs.declared.response.BookAnswer.TheVariants.{Opened, Joined, Flushed, No}
use Rattle.pp_pool.specs.Parts.{Parts, state_of}
use Rattle.pp_pool.specs.Books.{IsBook}
use Rattle.pp_pool.specs.Requests.{call_of, event_for}
use Rattle.pp_pool.specs.Performing.{ComesTo, DoesUnless, TellsOf, is_no}
use Rattle.pp_pool.specs.Replies.{IsEventOf, TokensFit, Replies}
use Rattle.pp_pool.proofs.Noted.{noted, refused_call}
use Rattle.pp_pool.proofs.Growing.{event_in}
use Rattle.pp_pool.proofs.Fitting.{event_fits}
use Rattle.pp_pool.proofs.Sending.{slot_fits}

-- A reply that tells no cause doesn't refuse.
no_cause : (r : Reply) → refusal_in r ≡ None → is_refusal r ≡ false
no_cause (reply.NotNow delay) e = cc
no_cause (reply.OffPlan cause) e = cc
no_cause (reply.Taken plan) e = refl
no_cause (reply.Hit frame mark) e = refl
no_cause (reply.MustRead frame) e = refl
no_cause (reply.MustWrite frame victim) e = refl
no_cause (reply.Failed failure) e = refl
no_cause (reply.Loaded mark) e = refl
no_cause reply.Did e = refl
no_cause (reply.Latched mark) e = refl
no_cause (reply.Unlatched mark) e = refl
no_cause (reply.Finished ending) e = refl
no_cause (reply.Flushing mark) e = refl
no_cause (reply.Flushed clean) e = refl

-- A call that isn't refused tells something.
done_call : (s : State) (call : Call) → refusal_of s call ≡ None → is_some (told s call) ≡ true
done_call s stranger e = cc
done_call s (refused other) e = cc
done_call s (asks m) e =
    let can : is_possible s m ≡ true = ap not (no_cause (reply_of s m) e) in
    ap (λ b. is_some {T = Move × Reply} (if b then Some (m, reply_of s m) else None)) can

module _ (old new : vault.Parts) (asked : Request) (s : State) (st : StandsFor old s) where
  abbrev Tells : BookAnswer → Type 0
  Tells out = is_some (told s (call_of old asked s)) ≡ not (is_no out)

  told_where : (out : BookAnswer) → is_no out ≡ false → DoesUnless old asked out new → Tells out
  told_where out is d = done_call s (call_of old asked s) ((d is).allowed s st) ∙ sym (ap not is)

  told_by : (out : BookAnswer) → ComesTo old asked out new → DoesUnless old asked out new → Tells out
  told_by (No back why) h d = ap is_some (refused_call s (call_of old asked s) why (h.refuses s st)).1
  told_by (Acts x) h d = told_where (Acts x) refl d
  told_by (Idle chair) h d = told_where (Idle chair) refl d
  told_by (Leaves x) h d = told_where (Leaves x) refl d
  told_by (Pinned x g) h d = told_where (Pinned x g) refl d
  told_by (Opened x g) h d = told_where (Opened x g) refl d
  told_by (Joined x) h d = told_where (Joined x) refl d
  told_by (Shared x g) h d = told_where (Shared x g) refl d
  told_by (Exclusive x g) h d = told_where (Exclusive x g) refl d
  told_by (Away errand) h d = told_where (Away errand) refl d
  told_by (Flushed clean) h d = told_where (Flushed clean) refl d

some_mapped : (o : Option (Move × Reply))
    → is_some (option_map (λ (t : Move × Reply). Step t.0 t.1) o) ≡ is_some o
some_mapped None = refl
some_mapped (Some t) = refl

pub replies : (b : Parts) (k : IsBook b) (asked : Request) (out : BookAnswer) (v : vault.Parts)
    → ComesTo b.vault asked out v → DoesUnless b.vault asked out v → (done : Option (Move × Reply))
    → TellsOf b.vault asked out done → (e : Option Event) → e ≡ option_map (λ (t : Move × Reply). Step t.0 t.1) done
    → TokensFit asked out → Replies asked (record { event = e; answer = out })
replies b k asked out v h d did tells e is fit =
    let s = state_of b in
    let here : e ≡ event_for b asked = event_in b k asked v did (noted b.vault v asked out did h d tells) e is in
    record {
      done =
          ap is_some here ∙ some_mapped (told s (call_of b.vault asked s))
          ∙ told_by b.vault v asked s k.stands out h d;
      event = subst (λ x. IfSome x (IsEventOf asked)) (sym here) (event_fits b.vault asked s);
      tokens = fit;
      slot = slot_fits b.vault v s k.stands asked out h fit;
    }
