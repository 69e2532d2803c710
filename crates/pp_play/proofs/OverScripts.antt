-- A script over a device, cue by cue.
use Rattle.std.proofs.Common.{◌≡◌, ◌∙◌, ℕ, suc, ◌+◌, ◌<◌, ◌≤◌, List, [], ◌∷◌, ◌++◌, length, drop, drop-cons}
use Rattle.std.proofs.Common.{append_assoc, append-nil, get_or, add-one, refl, sym, ap, subst}
use Rattle.std.proofs.lemmas.List.{drop_all}
use Rattle.pp_model.specs.Pool.{State}
use Rattle.pp_device.specs.Answers.{Answer}
use Rattle.pp_vault.specs.declared.hands.Hands.{Hands}
use Rattle.pp_vault.specs.Parts.{Parts}
use Rattle.pp_vault.specs.StandsFor.{StandsFor}
use Rattle.pp_vault.specs.Hands.{HandsFit}
use Rattle.pp_contents.specs.Agreeing.{Agrees}
use Rattle.pp_script.specs.declared.cue.Cue.{Cue}
use Rattle.pp_play.specs.declared.line.Line.{Line}
use Rattle.pp_play.specs.Following.{AllOver, PlaysOverDevice}
use Rattle.pp_play.specs.Moving.{PlaysFromAll}

module _ {D : Type 0} (reads : D → ℕ → List ℕ → Answer → List ℕ → D → Type 0)
    (writes : D → ℕ → List ℕ → Answer → D → Type 0) where
  -- From the start lines were told, up to these parts, hands and device; what is left goes on from there.
  pub record Over (old : Parts) (s : State) (hands : Hands) (d : D) (told : ℕ → List ℕ) (cues : List Cue)
      (before : List Line) (mid : Parts) (held : Hands) (e : D) (left : List Cue) (now : List Line) : Type 0 where
    pub lines : List Line
    pub is : now ≡ before ++ lines
    pub there : State
    pub tells : ℕ → List ℕ
    pub goes : (rest : List Line) (new : Parts) (t : State) (end : Hands) (f : D) (last : ℕ → List ℕ)
        → AllOver reads writes mid there held e tells left rest new t end f last
        → AllOver reads writes old s hands d told cues (lines ++ rest) new t end f last
    pub stands : StandsFor mid there
    pub fit : HandsFit mid held
    pub agrees : Agrees mid there held tells

  abbrev pub OverTo : Parts → Hands → D → List Cue → List Line → Parts → Hands → D → List Cue → List Line → Type 0
  OverTo old hands d cues before mid held e left now =
      HandsFit old hands → (s : State) → StandsFor old s → (told : ℕ → List ℕ) → Agrees old s hands told
      → Over old s hands d told cues before mid held e left now

  pub over_opens : (old : Parts) (hands : Hands) (d : D) (cues : List Cue) (before : List Line)
      → OverTo old hands d cues before old hands d cues before
  over_opens old hands d cues before fit s st told agrees =
      record {
        lines = [];
        is = sym (append-nil before);
        there = s;
        tells = told;
        goes = λ rest new t end f last h. h;
        stands = st;
        fit = fit;
        agrees = agrees;
      }

  -- One cue more.
  pub over_on : (old : Parts) (hands : Hands) (d : D) (cues : List Cue) (before : List Line) (f : Parts) (h : Hands)
      (x : D) (g : Parts) (k : Hands) (y : D) (now : List Line) (line : Line) (i : ℕ) (cue c : Cue) → i < length cues
      → cue ≡ get_or cues i c → OverTo old hands d cues before f h x (drop i cues) now
      → PlaysFromAll reads writes f h x cue line g k y
      → OverTo old hands d cues before g k y (drop (i + 1) cues) (now ++ line ∷ [])
  over_on old hands d cues before f h x g k y now line i cue c lt is played plays fit s st told agrees =
      let left : drop i cues ≡ cue ∷ drop (i + 1) cues =
      rw add-one (drop-cons cues i c lt ∙ ap (λ (q : Cue). q ∷ drop (suc i) cues) (sym is)) in
      let w = played fit s st told agrees in
      let p = plays w.fit w.there w.stands w.tells w.agrees in
      record {
        lines = w.lines ++ line ∷ [];
        is = ap (λ (ls : List Line). ls ++ line ∷ []) w.is ∙ append_assoc before w.lines (line ∷ []);
        there = p.0;
        tells = p.1;
        goes = λ more new t end z last rest.
            subst (λ (ls : List Line). AllOver reads writes old s hands d told cues ls new t end z last)
            (sym (append_assoc w.lines (line ∷ []) more))
            (w.goes (line ∷ more) new t end z last
            (subst
            (λ (cs : List Cue). AllOver reads writes f w.there h x w.tells cs (line ∷ more) new t end z last)
            (sym left) (g, p.0, k, y, p.1, p.2, rest)));
        stands = p.2.stands;
        fit = p.2.plays.fit;
        agrees = p.2.agrees;
      }

  -- None is left.
  pub all_over : (old : Parts) (hands : Hands) (d : D) (cues : List Cue) (before : List Line) (new : Parts)
      (held : Hands) (e : D) (now : List Line) (i : ℕ) → length cues ≤ i
      → OverTo old hands d cues before new held e (drop i cues) now
      → PlaysOverDevice reads writes old hands d cues before now new held e
  all_over old hands d cues before new held e now i le played fit s st told agrees =
      let w = played fit s st told agrees in
      let end : AllOver reads writes new w.there held e w.tells (drop i cues) [] new w.there held e w.tells =
      subst (λ (cs : List Cue). AllOver reads writes new w.there held e w.tells cs [] new w.there held e w.tells)
      (sym (drop_all i cues le)) (refl, refl, refl, refl, refl) in (
        w.lines,
        w.there,
        w.tells,
        w.is,
        subst (λ (ls : List Line). AllOver reads writes old s hands d told cues ls new w.there held e w.tells)
            (append-nil w.lines) (w.goes [] new w.there held e w.tells end),
        w.stands,
        w.agrees,
      )
