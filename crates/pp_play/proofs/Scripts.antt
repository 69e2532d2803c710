-- A script, cue by cue, where the hands fit.
use Rattle.std.proofs.Common.{◌≡◌, ◌∙◌, ℕ, suc, ◌+◌, ◌<◌, ◌≤◌, List, [], ◌∷◌, ◌++◌, length, drop, drop-cons}
use Rattle.std.proofs.Common.{append_assoc, append-nil, get_or, add-one, refl, sym, ap, subst}
use Rattle.std.proofs.lemmas.List.{drop_all}
use Rattle.pp_vault.specs.declared.hands.Hands.{Hands}
use Rattle.pp_vault.specs.Parts.{Parts}
use Rattle.pp_vault.specs.Hands.{HandsFit}
use Rattle.pp_script.specs.declared.cue.Cue.{Cue}
use Rattle.pp_play.specs.declared.line.Line.{Line}
use Rattle.pp_play.specs.Exact.{Plays, PlaysAll, PlaysFrom}

-- From the start lines were told, up to these parts and hands; what is left goes on from there.
pub record Played (old : Parts) (hands : Hands) (cues : List Cue) (before : List Line) (mid : Parts) (held : Hands)
    (left : List Cue) (now : List Line) : Type 0 where
  pub told : List Line
  pub lines : now ≡ before ++ told
  pub goes : (rest : List Line) (new : Parts) (end : Hands) → PlaysAll mid held left rest new end
      → PlaysAll old hands cues (told ++ rest) new end
  pub fit : HandsFit mid held

abbrev pub PlayedTo : Parts → Hands → List Cue → List Line → Parts → Hands → List Cue → List Line → Type 0
PlayedTo old hands cues before mid held left now =
    HandsFit old hands → Played old hands cues before mid held left now

pub opens : (old : Parts) (hands : Hands) (cues : List Cue) (before : List Line)
    → PlayedTo old hands cues before old hands cues before
opens old hands cues before fit =
    record { told = []; lines = sym (append-nil before); goes = λ rest new end h. h; fit = fit }

-- One cue more.
pub plays_on : (old : Parts) (hands : Hands) (cues : List Cue) (before : List Line) (f : Parts) (h : Hands) (g : Parts)
    (k : Hands) (now : List Line) (line : Line) (i : ℕ) (cue d : Cue) → i < length cues → cue ≡ get_or cues i d
    → PlayedTo old hands cues before f h (drop i cues) now → (HandsFit f h → Plays f h cue line g k)
    → PlayedTo old hands cues before g k (drop (i + 1) cues) (now ++ line ∷ [])
plays_on old hands cues before f h g k now line i cue d lt is played plays fit =
    let left : drop i cues ≡ cue ∷ drop (i + 1) cues =
    rw add-one (drop-cons cues i d lt ∙ ap (λ (c : Cue). c ∷ drop (suc i) cues) (sym is)) in
    let w = played fit in
    let p = plays w.fit in
    record {
      told = w.told ++ line ∷ [];
      lines = ap (λ (ls : List Line). ls ++ line ∷ []) w.lines ∙ append_assoc before w.told (line ∷ []);
      goes = λ more new end rest.
          subst (λ (ls : List Line). PlaysAll old hands cues ls new end) (sym (append_assoc w.told (line ∷ []) more))
          (w.goes (line ∷ more) new end
          (subst (λ (cs : List Cue). PlaysAll f h cs (line ∷ more) new end) (sym left) (g, k, p, rest)));
      fit = p.fit;
    }

-- None is left.
module _ (old : Parts) (hands : Hands) (cues : List Cue) (before : List Line) (new : Parts) (held : Hands)
    (now : List Line) (i : ℕ) (le : length cues ≤ i)
    (played : PlayedTo old hands cues before new held (drop i cues) now) where
  pub all_played : HandsFit old hands → PlaysFrom old hands cues before now new held
  all_played fit =
      let w = played fit in
      let end : PlaysAll new held (drop i cues) [] new held =
      subst (λ (cs : List Cue). PlaysAll new held cs [] new held) (sym (drop_all i cues le)) (refl, refl) in (
        w.told,
        w.lines,
        subst (λ (ls : List Line). PlaysAll old hands cues ls new held) (append-nil w.told) (w.goes [] new held end),
      )

  pub still_fit : HandsFit old hands → HandsFit new held
  still_fit fit = (played fit).fit
