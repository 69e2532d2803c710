-- A life that goes on by the turns of one thread.
use Rattle.std.proofs.Common.{◌≡◌, ◌∙◌, ℕ, ◌&&◌, List, [], ◌++◌, append_assoc, append-nil, refl, sym, ap, inl, inr}
use Rattle.std.specs.List.{list_all}
use Rattle.std.proofs.lemmas.List.Folds.{list_all-append}
use Rattle.pp_device.specs.Answers.{Answer as DeviceAnswer}
use Rattle.pp_device.specs.declared.device.Device as Device
use Rattle.pp_pool.specs.declared.flusher.Flusher.{Flusher}
use Rattle.pp_pool.specs.declared.request.Request.{Request}
use Rattle.pp_pool.specs.declared.response.Response.{Response}
use Rattle.pp_pool.specs.declared.site.OwnSite.{OwnSite}
use Rattle.pp_pool.specs.declared.site.Site as Site
use Rattle.pp_pool.specs.declared.turned.Turned.{Turned}
use Rattle.pp_pool.specs.declared.work.Work as Work
use Rattle.pp_pool.specs.declared.worker.Worker.{Worker}
use Rattle.pp_pool.specs.FlushTurns.{FlushTurnIs}
use Rattle.pp_pool.specs.Parts.{Parts, settings_of, plans_of}
use Rattle.pp_pool.specs.Performs.{Performs}
use Rattle.pp_pool.specs.Requests.{events_in}
use Rattle.pp_pool.specs.Turns.{TurnIs}
use Rattle.pp_report.specs.Reports.{is_move}
use Rattle.pp_run.specs.GoingOn.{GoesOn}
use Rattle.pp_run.proofs.Begun.{performs_adds}
use Rattle.pp_run.proofs.Paged.{performs_pages}

pub stays : (b : Parts) → GoesOn b b
stays b = record {
  settings = refl;
  plans = refl;
  outset = refl;
  page_bytes = refl;
  more = [];
  journal = sym (append-nil b.journal);
  moves = refl;
}

pub same_goes : (b c : Parts) → c ≡ b → GoesOn b c
same_goes b c same = record {
  settings = ap settings_of same;
  plans = ap plans_of same;
  outset = ap (λ (p : Parts). p.began) same;
  page_bytes = ap (λ (p : Parts). p.vault.page_bytes) same;
  more = [];
  journal = ap (λ (p : Parts). p.journal) same ∙ sym (append-nil b.journal);
  moves = refl;
}

pub then_goes : (a b c : Parts) → GoesOn a b → GoesOn b c → GoesOn a c
then_goes a b c first second = record {
  settings = second.settings ∙ first.settings;
  plans = second.plans ∙ first.plans;
  outset = second.outset ∙ first.outset;
  page_bytes = second.page_bytes ∙ first.page_bytes;
  more = first.more ++ second.more;
  journal =
      second.journal
      ∙ (ap (λ es. es ++ second.more) first.journal ∙ append_assoc a.journal first.more second.more);
  moves =
      list_all-append is_move first.more second.more
      ∙ (ap (λ x. x && list_all is_move second.more) first.moves ∙ second.moves);
}

pub performed : (a b : Parts) (asked : Request) (response : Response) → Performs a asked response b → GoesOn a b
performed a b asked response p = record {
  settings = p.settings;
  plans = p.plans;
  outset = p.outset;
  page_bytes = performs_pages a asked response b p;
  more = events_in response.event;
  journal = p.journal;
  moves = performs_adds a asked response b p;
}

-- ---- turns

-- The site gives what its own book performs.
abbrev IsOwn : (OwnSite → Request → Response → OwnSite → Type 0) → Type 0
IsOwn gives =
    (x : OwnSite) (asked : Request) (response : Response) (y : OwnSite) → gives x asked response y
    → Performs x.book asked response y.book

pub turned : {D W : Type 0} (s : Site.Ghosts OwnSite) (d : Device.Ghosts D) (k : Work.Ghosts W) (old : Worker OwnSite D)
    (before : W) (t : Turned) (new : Worker OwnSite D) (left : W) → TurnIs s d k old before t new left → IsOwn s.gives
    → GoesOn old.site.book new.site.book
turned s d k old before t new left (inl (inl made)) own =
    let m = made.makes in
    performed old.site.book new.site.book m.asked m.response (own old.site m.asked m.response new.site m.given)
turned s d k old before t new left (inl (inr u)) own =
    let m = u.makes.makes in
    performed old.site.book new.site.book m.asked m.response (own old.site m.asked m.response new.site m.given)
turned s d k old before t new left (inr w) own =
    same_goes old.site.book new.site.book (ap (λ (x : OwnSite). x.book) w.site)

pub flush_turned : {D : Type 0} (gives : OwnSite → Request → Response → OwnSite → Type 0)
    (reads : D → ℕ → List ℕ → DeviceAnswer → List ℕ → D → Type 0) (writes : D → ℕ → List ℕ → DeviceAnswer → D → Type 0)
    (calls failures : D → ℕ) (old : Flusher OwnSite D) (t : Turned) (new : Flusher OwnSite D)
    → FlushTurnIs gives reads writes calls failures old t new → IsOwn gives → GoesOn old.site.book new.site.book
flush_turned gives reads writes calls failures old t new (inl m) own =
    performed old.site.book new.site.book m.asked m.response (own old.site m.asked m.response new.site m.given)
flush_turned gives reads writes calls failures old t new (inr f) own =
    same_goes old.site.book new.site.book (ap (λ (x : Flusher OwnSite _). x.site.book) f.same)
