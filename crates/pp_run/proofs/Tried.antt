-- What a call leaves that is done at once, or changes nothing.
use Rattle.std.proofs.Common.{◌≡◌, ◌∙◌, ℕ, true, List, length, take, drop, sym, subst}
use Rattle.std.specs.Prelude.{Result, Ok, Err, IfOk, OnErr}
use Rattle.std.specs.List.{list_all}
use Rattle.pp_cert.specs.Accepted.{Acceptance}
use Rattle.pp_model.specs.Pool.{Settings}
use Rattle.pp_outset.specs.Outsets.{Outset}
use Rattle.pp_vault.specs.declared.tokens.Session.{Session}
use Rattle.pp_vault.specs.declared.guards.ReadGuard.{ReadGuard}
use Rattle.pp_pool.specs.declared.request.Request.{Request}
use Rattle.pp_pool.specs.declared.request.Request.TheVariants as request
use Rattle.pp_pool.specs.declared.response.Response.{Response}
use Rattle.pp_pool.specs.declared.response.BookAnswer.TheVariants.{No}
use Rattle.pp_vault.specs.declared.refusal.Refusal.{Refusal}
use Rattle.pp_pool.specs.declared.site.OwnSite.{OwnSite}
use Rattle.pp_pool.specs.Parts.{Parts, settings_of, plans_of}
use Rattle.pp_pool.specs.Performs.{Performs}
use Rattle.pp_pool.specs.Readings.{ReadsBy, EndsReadBy, hit, latched, unlatched, unfixed}
use Rattle.pp_pool.specs.Replies.{TokensFit, Replies}
use Rattle.pp_report.specs.Reports.{is_move}
use Rattle.pp_run.specs.Runs.{submits}
use Rattle.pp_run.specs.Shared.{IsGiven}
use Rattle.pp_run.proofs.Begun.{performs_submits, performs_moves}
use Rattle.pp_run.proofs.Paged.{performs_pages}

-- What holds of a run's book: its settings, its plans, what its life began with, how many bytes a page has, and that its journal
-- begins with the submits of these plans and goes on with moves.
pub record IsOfRun (k : Settings) (plans : List Acceptance) (o : Outset) (n : ℕ) (b : Parts) : Type 0 where
  pub settings : settings_of b ≡ k
  pub taken : plans_of b ≡ plans
  pub outset : b.began ≡ o
  pub page_bytes : b.vault.page_bytes ≡ n
  pub begun : take (length plans) b.journal ≡ submits 0 (length plans)
  pub moving : list_all is_move (drop (length plans) b.journal) ≡ true

performs_kept : (k : Settings) (plans : List Acceptance) (o : Outset) (n : ℕ) (old : Parts) (asked : Request) (response : Response)
    (new : Parts) → Performs old asked response new → IsOfRun k plans o n old → IsOfRun k plans o n new
performs_kept k plans o n old asked response new p h =
    record {
      settings = p.settings ∙ h.settings;
      taken = p.plans ∙ h.taken;
      outset = p.outset ∙ h.outset;
      page_bytes = performs_pages old asked response new p ∙ h.page_bytes;
      begun = performs_submits (length plans) old asked response new p h.begun;
      moving = performs_moves (length plans) old asked response new p h.begun h.moving;
    }

-- So it is after a reading that began, and after one that ended.
pub read_kept : (k : Settings) (plans : List Acceptance) (o : Outset) (n : ℕ) (old new : OwnSite) (x : Session) (page : ℕ)
    (r : Result (Session × ReadGuard × ℕ) Session)
    → IfOk r (λ now. ReadsBy (λ s asked response t. Performs s.book asked response t.book) old x page new now.0 now.1 now.2)
    → OnErr r (new ≡ old) → IsOfRun k plans o n old.book → IsOfRun k plans o n new.book
read_kept k plans o n old new x page (Ok now) p same h =
    performs_kept k plans o n p.between.book _ _ new.book p.latches (performs_kept k plans o n old.book _ _ p.between.book p.fixes h)
read_kept k plans o n old new x page (Err e) p same h = subst (λ (t : OwnSite). IsOfRun k plans o n t.book) (sym same) h

pub ended_kept : (k : Settings) (plans : List Acceptance) (o : Outset) (n : ℕ) (old new : OwnSite) (x : Session) (g : ReadGuard)
    (r : Result (Session × ℕ) (Session × ReadGuard))
    → IfOk r (λ now. EndsReadBy (λ s asked response t. Performs s.book asked response t.book) old x g new now.0 now.1)
    → OnErr r (new ≡ old) → IsOfRun k plans o n old.book → IsOfRun k plans o n new.book
ended_kept k plans o n old new x g (Ok now) p same h =
    performs_kept k plans o n p.between.book _ _ new.book p.unfixes
    (performs_kept k plans o n old.book _ _ p.between.book p.unlatches h)
ended_kept k plans o n old new x g (Err e) p same h = subst (λ (t : OwnSite). IsOfRun k plans o n t.book) (sym same) h

-- A desk gives what its site gives, also between the two moves of a reading. One can be made with any site whose book is of the run.
module _ {T : Type 0} (own : T → OwnSite) (k : Settings) (plans : List Acceptance) (o : Outset) (n : ℕ)
    (made : (s : OwnSite) → IsOfRun k plans o n s.book → T) (is : (s : OwnSite) (h : IsOfRun k plans o n s.book) → own (made s h) ≡ s)
    (old new : T) (h : IsOfRun k plans o n (own old).book) where
  abbrev gives_own : OwnSite → Request → Response → OwnSite → Type 0
  gives_own s asked response t = Performs s.book asked response t.book

  abbrev gives_desk : T → Request → Response → T → Type 0
  gives_desk s asked response t = Performs (own s).book asked response (own t).book

  pub desk_reads : (x : Session) (page : ℕ) (r : Result (Session × ReadGuard × ℕ) Session)
      → IfOk r (λ now. ReadsBy gives_own (own old) x page (own new) now.0 now.1 now.2)
      → IfOk r (λ now. ReadsBy gives_desk old x page new now.0 now.1 now.2)
  desk_reads x page (Ok now) p =
      let kept = performs_kept k plans o n (own old).book _ _ p.between.book p.fixes h in
      let at = sym (is p.between kept) in
      record {
        between = made p.between kept;
        session = p.session;
        guard = p.guard;
        fixes = subst (λ s. gives_own (own old) (request.Fix x page) (hit x page p.session p.guard now.2 (now.1).mark) s) at p.fixes;
        fix_fits = p.fix_fits;
        asks = p.asks;
        latches = subst (λ s. gives_own s (request.LatchShared p.session p.guard) (latched p.session now.0 now.1) (own new)) at p.latches;
        latch_fits = p.latch_fits;
      }
  desk_reads x page (Err e) p = tt

  pub desk_ends : (x : Session) (g : ReadGuard) (r : Result (Session × ℕ) (Session × ReadGuard))
      → IfOk r (λ now. EndsReadBy gives_own (own old) x g (own new) now.0 now.1)
      → IfOk r (λ now. EndsReadBy gives_desk old x g new now.0 now.1)
  desk_ends x g (Ok now) p =
      let kept = performs_kept k plans o n (own old).book _ _ p.between.book p.unlatches h in
      let at = sym (is p.between kept) in
      record {
        between = made p.between kept;
        session = p.session;
        guard = p.guard;
        unlatches = subst (λ s. gives_own (own old) (request.UnlatchShared x g) (unlatched x p.session p.guard now.1) s) at p.unlatches;
        unlatch_fits = p.unlatch_fits;
        asks = p.asks;
        unfixes = subst (λ s. gives_own s (request.Unfix p.session p.guard) (unfixed p.session now.0) (own new)) at p.unfixes;
        unfix_fits = p.unfix_fits;
      }
  desk_ends x g (Err e) p = tt

-- A shared site gives what the desk gave.
pub read_given : {S T : Type 0} (gives : S → Request → Response → S → Type 0) (old new : S) (a b : T) (x : Session) (page : ℕ)
    (r : Result (Session × ReadGuard × ℕ) Session) → IfOk r (λ now. ReadsBy gives old x page new now.0 now.1 now.2)
    → IfOk r (λ now. ReadsBy (λ (_ : T) asked response (_ : T). IsGiven gives asked response) a x page b now.0 now.1 now.2)
read_given gives old new a b x page (Ok now) p = record {
  between = a;
  session = p.session;
  guard = p.guard;
  fixes = (p.fix_fits, (old, p.between, p.fixes));
  fix_fits = p.fix_fits;
  asks = p.asks;
  latches = (p.latch_fits, (p.between, new, p.latches));
  latch_fits = p.latch_fits;
}
read_given gives old new a b x page (Err e) p = tt

pub ended_given : {S T : Type 0} (gives : S → Request → Response → S → Type 0) (old new : S) (a b : T) (x : Session)
    (g : ReadGuard) (r : Result (Session × ℕ) (Session × ReadGuard)) → IfOk r (λ now. EndsReadBy gives old x g new now.0 now.1)
    → IfOk r (λ now. EndsReadBy (λ (_ : T) asked response (_ : T). IsGiven gives asked response) a x g b now.0 now.1)
ended_given gives old new a b x g (Ok now) p = record {
  between = a;
  session = p.session;
  guard = p.guard;
  unlatches = (p.unlatch_fits, (old, p.between, p.unlatches));
  unlatch_fits = p.unlatch_fits;
  asks = p.asks;
  unfixes = (p.unfix_fits, (p.between, new, p.unfixes));
  unfix_fits = p.unfix_fits;
}
ended_given gives old new a b x g (Err e) p = tt

-- What is given for a request that came back is given for it.
pub refused_given : {B : Type 0} (gives : B → Request → Response → B → Type 0) (asked back : Request) (why : Refusal)
    (first second : Response) → first.answer ≡ No back why → Replies asked first → IsGiven gives back second
    → IsGiven gives asked second
refused_given gives asked back why first second is fits later =
    subst (λ q. IsGiven gives q second) (subst (TokensFit asked) is fits.tokens) later

-- What holds on an error of the one holds there of the other.
pub on_error : {A E : Type 0} {P Q : Type 0} (r : Result A E) → (P → Q) → OnErr r P → OnErr r Q
on_error (Ok now) f p = tt
on_error (Err e) f p = f p
