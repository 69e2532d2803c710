-- A text that is written piece by piece.
use Rattle.std.proofs.Common.{◌≡◌, ◌+◌, ◌-◌, ◌≤◌, ◌++◌, ℕ, List, Option, Some, None, length, take, drop, refl, sym, ap, subst, ◌∙◌, append_assoc, arith}
use Rattle.std.proofs.lemmas.List.{append-nil, length-drop, take_all}
use Rattle.std.proofs.Math.Seq.{take-add}
use Rattle.std.specs.Io.KnownBytes.{Appends, Keeps}

-- At the beginning nothing is written.
pub begun : (old : Option (List ℕ)) (text : List ℕ) → Appends old old (take 0 text)
begun None text = tt
begun (Some xs) text = sym (append-nil xs)

-- And none of it where the bytes stay.
pub nothing : (old new : Option (List ℕ)) (text : List ℕ) → Keeps old new → Appends old new (take 0 text)
nothing None new text stays = tt
nothing (Some xs) None text stays = absurd stays
nothing (Some xs) (Some ys) text stays = stays ∙ sym (append-nil xs)

-- A further piece.
pub further : (old mid new : Option (List ℕ)) (text : List ℕ) (k n : ℕ) → Appends old mid (take k text)
    → Appends mid new (take n (drop k text)) → Appends old new (take (k + n) text)
further None mid new text k n before piece = tt
further (Some xs) None new text k n before piece = absurd before
further (Some xs) (Some ys) None text k n before piece = absurd piece
further (Some xs) (Some ys) (Some zs) text k n before piece =
    piece ∙ ap (λ l. l ++ take n (drop k text)) before ∙ append_assoc xs (take k text) (take n (drop k text))
    ∙ ap (λ l. xs ++ l) (sym (take-add k n text))

-- What is left of it.
pub rest_is : (text : List ℕ) (k : ℕ) → take (length text - k) (drop k text) ≡ drop k text
rest_is text k = take_all (length text - k) (drop k text) (omega (arith, length-drop k text))

-- What stays is still written.
pub kept : (old mid new : Option (List ℕ)) (text : List ℕ) → Appends old mid text → Keeps mid new → Appends old new text
kept None mid new text before stays = tt
kept (Some xs) None new text before stays = absurd before
kept (Some xs) (Some ys) None text before stays = absurd stays
kept (Some xs) (Some ys) (Some zs) text before stays = stays ∙ before

-- All of a text is a front of it.
pub whole : (old new : Option (List ℕ)) (text : List ℕ) (n : ℕ) → n ≡ length text → Appends old new (take n text)
    → Appends old new text
whole old new text n all h = subst (Appends old new) (take_all n text (omega (arith, all))) h

pub ruleset pieces = (begun, nothing, further, kept, whole)
