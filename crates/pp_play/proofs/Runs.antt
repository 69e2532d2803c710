-- A script, cue by cue.
use Rattle.std.proofs.Common.{◌≡◌, ◌∙◌, ℕ, suc, ◌+◌, ◌<◌, ◌≤◌, List, [], ◌∷◌, ◌++◌, length, drop, drop-cons}
use Rattle.std.proofs.Common.{append_assoc, append-nil, get_or, add-one, refl, sym, ap, subst}
use Rattle.std.proofs.lemmas.List.{drop_all}
use Rattle.pp_model.specs.Pool.{State}
use Rattle.pp_vault.specs.Parts.{Parts}
use Rattle.pp_vault.specs.StandsFor.{StandsFor}
use Rattle.pp_script.specs.declared.cue.Cue.{Cue}
use Rattle.pp_play.specs.declared.line.Line.{Line}
use Rattle.pp_play.specs.Plays.{TellsAll, ComesTo, AllComeTo}

-- From every state at the start lines were told, up to a state now; what is left goes on from there.
pub record Went (s : State) (cues : List Cue) (before : List Line) (new : Parts) (left : List Cue)
    (now : List Line) : Type 0 where
  pub mid : State
  pub told : List Line
  pub stands : StandsFor new mid
  pub lines : now ≡ before ++ told
  pub goes : (rest : List Line) (t : State) → TellsAll mid left rest t → TellsAll s cues (told ++ rest) t

abbrev pub Goes : Parts → List Cue → List Line → Parts → List Cue → List Line → Type 0
Goes old cues before new left now = (s : State) → StandsFor old s → Went s cues before new left now

pub starts : (old : Parts) (cues : List Cue) (before : List Line) → Goes old cues before old cues before
starts old cues before s st =
    record { mid = s; told = []; stands = st; lines = sym (append-nil before); goes = λ rest t h. h }

one_more : (s : State) (cues : List Cue) (before : List Line) (f g : Parts) (now : List Line) (line : Line) (cue : Cue)
    (left rest : List Cue) → left ≡ cue ∷ rest → Went s cues before f left now → ComesTo f cue line g
    → Went s cues before g rest (now ++ line ∷ [])
one_more s cues before f g now line cue left rest is w comes =
    let c = comes w.mid w.stands in
    record {
      mid = c.0;
      told = w.told ++ line ∷ [];
      stands = c.2;
      lines = ap (λ (ls : List Line). ls ++ line ∷ []) w.lines ∙ append_assoc before w.told (line ∷ []);
      goes = λ more t h.
          subst (λ (ls : List Line). TellsAll s cues ls t) (sym (append_assoc w.told (line ∷ []) more))
          (w.goes (line ∷ more) t
          (subst (λ (cs : List Cue). TellsAll w.mid cs (line ∷ more) t) (sym is) (c.0, c.1, h)));
    }

-- One cue more.
pub goes_on : (old : Parts) (cues : List Cue) (before : List Line) (f g : Parts) (now : List Line) (line : Line)
    (i : ℕ) (cue d : Cue) → i < length cues → cue ≡ get_or cues i d → Goes old cues before f (drop i cues) now
    → ComesTo f cue line g → Goes old cues before g (drop (i + 1) cues) (now ++ line ∷ [])
goes_on old cues before f g now line i cue d lt is goes comes s st =
    let left : drop i cues ≡ cue ∷ drop (i + 1) cues =
    rw add-one (drop-cons cues i d lt ∙ ap (λ (c : Cue). c ∷ drop (suc i) cues) (sym is)) in
    one_more s cues before f g now line cue (drop i cues) (drop (i + 1) cues) left (goes s st) comes

-- None is left.
pub went : (old : Parts) (cues : List Cue) (before : List Line) (new : Parts) (now : List Line) (i : ℕ)
    → length cues ≤ i → Goes old cues before new (drop i cues) now → AllComeTo old cues before now new
went old cues before new now i le goes s st =
    let w = goes s st in
    let none : drop i cues ≡ [] = drop_all i cues le in
    let end : TellsAll w.mid (drop i cues) [] w.mid =
    subst (λ (cs : List Cue). TellsAll w.mid cs [] w.mid) (sym none) refl in (
      w.mid,
      w.told,
      w.lines,
      subst (λ (ls : List Line). TellsAll s cues ls w.mid) (append-nil w.told) (w.goes [] w.mid end),
      w.stands,
    )
