-- A page that leaves its frame for another that is read at once isn't newer than the device's.
use Rattle.std.proofs.Common.{◌≡◌, ◌∙◌, ℕ, false, Option, Some, None, refl, sym, ap, inl, inr}
use Rattle.std.proofs.lemmas.Bool.{false≢true}
use Rattle.pp_cert.specs.declared.note.Held.{Held}
use Rattle.pp_cert.specs.declared.note.Held.TheVariants.{Free, S, X}
use Rattle.pp_model.specs.declared.moves.Move.TheVariants.{Fix}
use Rattle.pp_model.specs.declared.reply.Reply.{Reply}
use Rattle.pp_model.specs.declared.reply.Reply.TheVariants.{MustRead}
use Rattle.pp_model.specs.Pool.{State, is_dirty}
use Rattle.pp_model.specs.Leaving.{unwound}
use Rattle.pp_model.specs.Moves.{outcome_of, reply_of, next_of, is_refusal}
use Rattle.pp_model.specs.Reached.{IsReached}
use Rattle.pp_model.specs.Ready.{Standing, ready_at, standing_of, Leaves}
use Rattle.pp_model.proofs.Changes as change
use Rattle.pp_model.proofs.Changes.{Change, IsReal, Tells, Result, refused, done, result}
use Rattle.pp_model.proofs.ReadyLaws.{read_into, not_read}
use Rattle.pp_model.proofs.ReadyPages.{ready_stays}
use Rattle.pp_model.proofs.ReadySteps as steps
use Rattle.pp_model.proofs.Requests.{same, other, which}

-- The giving back of a slot reads nothing.
unwound_reads : (k : Held) (mark : ℕ) → read_into (unwound k mark) ≡ None
unwound_reads Free mark = refl
unwound_reads S mark = refl
unwound_reads X mark = refl

module _ (s : State) (h : IsReached s) (victim : ℕ) (x : Standing) (was : ready_at s victim ≡ Some x) where
  none_standing : {y : Standing} → ◌≡◌ {A = Option Standing} None (Some y) → ⊥
  none_standing {y} e = cc

  -- It would be ready still.
  stayed : (t u : State) → t ≡ u → ready_at u victim ≡ ready_at s victim → ready_at t victim ≡ None → ⊥
  stayed t u e stay gone = none_standing (sym gone ∙ ap (λ z. ready_at z victim) e ∙ stay ∙ was)

  by_victim : (t u : State) (v : ℕ) (y : Standing) → t ≡ u → is_dirty s v ≡ false → Leaves s u v y
      → ready_at t victim ≡ None → is_dirty s victim ≡ false
  by_victim t u v y e clean leaves gone =
      elim (which victim v) [
        | same d k ↦ ap (is_dirty s) d ∙ clean
        | other d k ↦ absurd (stayed t u e (leaves.others victim d) gone)
      ]

  by_change : (t : State) (y : Reply) (frame : ℕ) (c : Change s t) → IsReal c → Tells c y → y ≡ MustRead frame
      → ready_at t victim ≡ None → is_dirty s victim ≡ false
  by_change t y frame (change.stays e) real told is gone = absurd real
  by_change t y frame (change.takes w a idle next fits e) real told is gone = absurd (not_read y _ frame told is refl)
  by_change t y frame (change.hits w r slot page l asked so e) real told is gone =
      absurd (not_read y _ frame told is refl)
  by_change t y frame (change.fills w r slot page l asked so e) real told is gone =
      absurd (stayed t _ e (steps.fill_ready s h w r slot page l asked so victim) gone)
  by_change t y frame (change.evicts w r slot page v l asked so clean e) real told is gone =
      by_victim t _ v (standing_of s v) e clean (steps.evict_read_leaves s h w r slot page l asked v so) gone
  by_change t y frame (change.sends w r slot page v l asked so dirty e) real told is gone =
      absurd (not_read y _ frame told is refl)
  by_change t y frame (change.writes w r slot page v at e) real told is gone =
      absurd (stayed t _ e (ready_stays s _ victim (steps.write_stays s h w r slot page v at victim)) gone)
  by_change t y frame (change.brings w r slot page v at e) real told is gone = absurd (not_read y _ frame told is refl)
  by_change t y frame (change.forgets w r slot page at e) real (inl told) is gone =
      absurd (not_read y _ frame told is refl)
  by_change t y frame (change.forgets w r slot page at e) real (inr told) is gone =
      absurd (not_read y _ frame told is refl)
  by_change t y frame (change.loads w r slot page stamp at known e) real told is gone =
      absurd (not_read y _ frame told is refl)
  by_change t y frame (change.unfixes w r slot a back asked e) real told is gone = absurd (not_read y _ frame told is refl)
  by_change t y frame (change.latches w r slot m asked goes e) real told is gone =
      absurd (not_read y _ frame told is refl)
  by_change t y frame (change.unlatches w r slot asked e) real told is gone = absurd (not_read y _ frame told is refl)
  by_change t y frame (change.chooses w r i asked e) real told is gone = absurd (not_read y _ frame told is refl)
  by_change t y frame (change.unwinds w r slot given k at found e) real told is gone =
      absurd (not_read y _ frame told is (unwound_reads k.held _))
  by_change t y frame (change.ends w r at asked e) real told is gone = absurd (not_read y _ frame told is refl)
  by_change t y frame (change.leaves w r given at none e) real told is gone = absurd (not_read y _ frame told is refl)
  by_change t y frame (change.flushes page can e) real told is gone = absurd (not_read y _ frame told is refl)
  by_change t y frame (change.cleans f so e) real told is gone = absurd (not_read y _ frame told is refl)
  by_change t y frame (change.drops f so e) real told is gone = absurd (not_read y _ frame told is refl)

  pub evicted_clean : (w page frame : ℕ) → reply_of s (Fix w page) ≡ MustRead frame
      → ready_at (next_of s (Fix w page)) victim ≡ None → is_dirty s victim ≡ false
  evicted_clean w page frame is gone = go (result s (Fix w page))
    where
      go : Result s (outcome_of s (Fix w page)) → is_dirty s victim ≡ false
      go (refused isnt e) = absurd (false≢true (sym (ap is_refusal is) ∙ isnt))
      go (done isnt c real told) = by_change (next_of s (Fix w page)) (reply_of s (Fix w page)) frame c real told is gone
