-- What `annotate` and `draw` come to whose text goes to a file.
use Rattle.std.proofs.Common.{◌≡◌, ◌⊎◌, ℕ, List, length, Option, Some, None, sym, subst, ap, inl, inr, ◌∙◌}
use Rattle.pp_judge.specs.Answers.{Answer, ComesTo, MayCome, MayDraw, certification_answer, out_of_memory, seen}
use Rattle.pp_judge.specs.declared.exit.Exit.{Exit}
use Rattle.pp_judge.specs.declared.exit.Exit.TheVariants.{OutOfMemory}
use Rattle.pp_words.specs.CommandLine.{Asked, Text}
use Rattle.pp_cli.specs.Runs.{ComesOf, IsPut}

-- Want of memory goes to no file.
memory_stays : (output : Option Text) (told : Answer) → IsPut output out_of_memory told → told ≡ out_of_memory
memory_stays None told h = h
memory_stays (Some path) told h = h

pub annotated_put : (output : Option Text) (settings plan : Text) (s p : List ℕ) (exit : Exit) (told : Answer)
    → ComesTo (certification_answer s p) exit → IsPut output (seen exit) told
    → ComesOf (Asked.annotate output settings plan) told
annotated_put output settings plan s p exit told (inl same) put =
    inr (s, p, subst (λ answer. IsPut output answer told) same put)
annotated_put output settings plan s p exit told (inr memory) put =
    let kept : told ≡ out_of_memory =
    memory_stays output told (subst (λ answer. IsPut output answer told) (ap seen memory) put) in
    subst (ComesOf (Asked.annotate output settings plan)) (sym kept) (inl tt)

pub drawn_put : (output : Option Text) (settings journal : Text) (plans : List Text) (s j : List ℕ)
    (ps : List (List ℕ)) (exit : Exit) (told : Answer) → length ps ≡ length plans
    → MayCome (MayDraw s j ps) exit → IsPut output (seen exit) told
    → ComesOf (Asked.draw output settings journal plans) told
drawn_put output settings journal plans s j ps exit told long (inl may) put =
    inr (s, j, ps, seen exit, long, may, put)
drawn_put output settings journal plans s j ps exit told long (inr memory) put =
    let kept : told ≡ out_of_memory =
    memory_stays output told (subst (λ answer. IsPut output answer told) (ap seen memory) put) in
    subst (ComesOf (Asked.draw output settings journal plans)) (sym kept) (inl tt)
