-- What flushes leave of a seating.
use Rattle.std.proofs.Common.{◌≡◌, ◌∙◌, ℕ, Bool, true, false, List, Option, Some, None, refl, sym, ap, subst, inl, inr}
use Rattle.std.specs.Prelude.{is_none}
use Rattle.pp_device.specs.Answers.{Answer as DeviceAnswer}
use Rattle.pp_pool.specs.declared.flusher.Flusher.{Flusher}
use Rattle.pp_pool.specs.declared.turned.Turned.{Turned}
use Rattle.pp_pool.specs.declared.request.Request.{Request}
use Rattle.pp_pool.specs.Flushings.{IsFlush, AsksFlush}
use Rattle.pp_pool.specs.FlushTurns.{FlushTurnIs}
use Rattle.pp_model.specs.Pool.{State, dirty_pages}
use Rattle.pp_vault.specs.StandsFor.{StandsFor}
use Rattle.pp_vault.specs.Duties.{duty_worker}
use Rattle.pp_vault.specs.declared.hands.Flushing.{Flushing}
use Rattle.pp_vault.specs.declared.hands.Flushing.TheVariants.{Out, Back}
use Rattle.pp_hall.specs.Askers.{asker}
use Rattle.pp_hall.specs.declared.counts.Stats.{Stats}
use Rattle.pp_hall.specs.declared.error.CloseError.{CloseError}
use Rattle.pp_hall.specs.declared.error.CloseError.TheVariants.{Busy, WriteFault, FlushesSpent}
use Rattle.pp_hall.specs.Seatings as seatings
use Rattle.pp_hall.specs.Seatings.{Performs, first_out}
use Rattle.pp_hall.specs.Waiters as waiters
use Rattle.pp_hall.specs.Posts as posts
use Rattle.pp_hall.specs.Halls.{Parts, IsKept, HomesHavePosts}
use Rattle.pp_hall.specs.Calls.{StatsAre, with_seating}
use Rattle.pp_hall.specs.Closing.{ComesBy, stays, further, IsAllHome, IsClean, IsBack, IsClosed, CloseFails}

-- The chairs are out as they were.
pub comes_peaks : {x y : seatings.Parts} → ComesBy x y → y.peaks ≡ x.peaks
comes_peaks stays = refl
comes_peaks (further y z asked response before mine p) = ap (λ (v : seatings.Parts). v.peaks) p.rest ∙ comes_peaks before

-- What the flusher asks is no worker's.
flushers_ask : {D : Type 0} (reads : D → ℕ → List ℕ → DeviceAnswer → List ℕ → D → Type 0)
    (writes : D → ℕ → List ℕ → DeviceAnswer → D → Type 0) (calls failures : D → ℕ) (flushing : Option Flushing)
    (from : ℕ) (d : D) (asked : Request) (e : D) → IsFlush flushing
    → AsksFlush reads writes calls failures flushing from d asked e → asker asked ≡ None
flushers_ask reads writes calls failures None from d asked e mine asks = ap asker asks.0
flushers_ask reads writes calls failures (Some (Out errand)) from d asked e mine asks =
    ap asker asks.sent ∙ ap duty_worker asks.duty ∙ mine
flushers_ask reads writes calls failures (Some (Back returned)) from d asked e mine asks = ap asker asks.0 ∙ mine

-- A turn of the flusher makes one request, or none.
pub comes_further : {D : Type 0} (reads : D → ℕ → List ℕ → DeviceAnswer → List ℕ → D → Type 0)
    (writes : D → ℕ → List ℕ → DeviceAnswer → D → Type 0) (calls failures : D → ℕ) (x : seatings.Parts) (old : Flusher seatings.Parts D)
    (turned : Turned) (new : Flusher seatings.Parts D) → ComesBy x old.site
    → FlushTurnIs (λ a asked response b. Performs a asked response b) reads writes calls failures old turned new
    → ComesBy x new.site
comes_further {D = D} reads writes calls failures x old turned new before turn = elim turn [
  | inl f ↦ further old.site new.site f.asked f.response before
      (flushers_ask reads writes calls failures old.flushing old.from old.device f.asked new.device old.of_flush f.asks)
      f.given
  | inr s ↦ subst (λ (f : Flusher seatings.Parts D). ComesBy x f.site) (sym s.same) before
]

-- ---- a hall that isn't closed

-- A chair is out, or the flusher: the hall is as it was.
pub back_with_chair : (h : Parts) (b : Bool) → b ≡ false → b ≡ is_none (first_out h.seating.peaks) → IsBack h Busy h
back_with_chair h b out is = record {
  why = λ home. let none : is_none (first_out h.seating.peaks) ≡ true = ap is_none home.chairs in cc;
  by = stays;
  rest = refl;
}

pub back_without_flusher : (h : Parts) (p : posts.Parts) → false ≡ h.posts.is_flusher_home
    → p ≡ record h.posts { is_flusher_home = false } → IsBack h Busy (record h { posts = p })
back_without_flusher h p away same = record {
  why = λ home. let there : h.posts.is_flusher_home ≡ true = home.flusher in cc;
  by = stays;
  rest = λ i. record h { posts = (same ∙ ap (λ (b : Bool). record h.posts { is_flusher_home = b }) away) i };
}

-- The flusher went and came home again.
posts_back : (p q r : posts.Parts) → q ≡ record p { is_flusher_home = false } → r ≡ record q { is_flusher_home = true }
    → true ≡ p.is_flusher_home → r ≡ p
posts_back p q r gone back was =
    back ∙ ap (λ (x : posts.Parts). record x { is_flusher_home = true }) gone
    ∙ ap (λ (b : Bool). record p { is_flusher_home = b }) was

fails : (h new : Parts) (e : CloseError) → IsAllHome h → (e ≡ Busy → ⊥)
    → (e ≡ FlushesSpent → (s : State) → StandsFor new.seating.vault s → dirty_pages s ≡ 0 → ⊥) → CloseFails h e new
fails h new Busy home other spent = absurd (other refl)
fails h new (WriteFault page) home other spent = home
fails h new FlushesSpent home other spent = (home, spent refl)

-- All are home, since the test says so, and the flusher was there.
all_home : (h : Parts) (b : Bool) → b ≡ true → b ≡ is_none (first_out h.seating.peaks) → true ≡ h.posts.is_flusher_home
    → IsAllHome h
all_home h b yes_ is there = record { chairs = go (first_out h.seating.peaks) (sym is ∙ yes_); flusher = sym there }
  where
    go : (o : Option ℕ) → is_none o ≡ true → o ≡ None
    go None e = refl
    go (Some n) e = cc

-- The flusher's site was the seating, and is what came of it.
pub back_changed : (h : Parts) (b : Bool) → b ≡ true → b ≡ is_none (first_out h.seating.peaks)
    → true ≡ h.posts.is_flusher_home → (q r : posts.Parts) → q ≡ record h.posts { is_flusher_home = false }
    → r ≡ record q { is_flusher_home = true } → (x0 x1 x : seatings.Parts) → x0 ≡ h.seating → ComesBy x0 x1 → x ≡ x1
    → (w : waiters.Parts) (e : CloseError) → (e ≡ Busy → ⊥)
    → (e ≡ FlushesSpent → (s : State) → StandsFor x1.vault s → dirty_pages s ≡ 0 → ⊥)
    → IsBack h e (record { seating = x; waiters = w; posts = r; policy = h.policy })
back_changed h b out is there q r gone back x0 x1 x began by ended w e other spent = record {
  why = fails h (record { seating = x; waiters = w; posts = r; policy = h.policy }) e (all_home h b out is there) other
      (subst (λ (y : seatings.Parts). e ≡ FlushesSpent → (s : State) → StandsFor y.vault s → dirty_pages s ≡ 0 → ⊥)
      (sym ended) spent);
  by = subst (λ (y : seatings.Parts). ComesBy h.seating y) (sym ended)
      (subst (λ (y : seatings.Parts). ComesBy y x1) began by);
  rest = λ i. record { seating = x; waiters = w; posts = posts_back h.posts q r gone back there i; policy = h.policy };
}

-- The chairs are out as they were, and their workers there.
pub homes_after : (h : Parts) → IsKept h → (q r : posts.Parts) → q ≡ record h.posts { is_flusher_home = false }
    → r ≡ record q { is_flusher_home = true } → (x0 x1 x : seatings.Parts) → x0 ≡ h.seating → ComesBy x0 x1 → x ≡ x1
    → HomesHavePosts x.peaks r.there
homes_after h k q r gone back x0 x1 x began by ended =
    let peaks : x.peaks ≡ h.seating.peaks =
    ap (λ (y : seatings.Parts). y.peaks) ended ∙ comes_peaks by ∙ ap (λ (y : seatings.Parts). y.peaks) began in
    let there : r.there ≡ h.posts.there =
    ap (λ (p : posts.Parts). p.there) back ∙ ap (λ (p : posts.Parts). p.there) gone in
    subst (λ (ps : List (Option ℕ)). HomesHavePosts ps r.there) (sym peaks)
    (subst (λ (bs : List Bool). HomesHavePosts h.seating.peaks bs) (sym there) k.posts)

-- ---- one that is closed

pub closed : (h : Parts) (b : Bool) → b ≡ true → b ≡ is_none (first_out h.seating.peaks) → true ≡ h.posts.is_flusher_home
    → (x0 x1 x : seatings.Parts) → x0 ≡ h.seating → ComesBy x0 x1 → x ≡ x1 → IsClean x1 → (s : Stats)
    → StatsAre (with_seating h x) s → (IsClean x → s.dirty ≡ 0) → IsClosed h s
closed h b out is there x0 x1 x began by ended clean s stats dirty =
    let clean_here : IsClean x = subst IsClean (sym ended) clean in
    record {
      home = all_home h b out is there;
      last = x;
      by = subst (λ (y : seatings.Parts). ComesBy h.seating y) (sym ended)
          (subst (λ (y : seatings.Parts). ComesBy y x1) began by);
      clean = clean_here;
      told = stats;
      dirty = dirty clean_here;
    }
