-- On numbers in a list of bytes, and on the entries of a node.
use Rattle.std.proofs.Common.{zero, suc, [], ◌∷◌, ◌++◌, map, subst, zero-add, add-one, ◌≡◌, ℕ, ◌+◌, ◌<◌, ◌≤◌, List, length, take, drop, refl, sym, ◌∙◌, ap, arith}
use Rattle.std.specs.Int.{w32, from_be_bytes}
use Rattle.std.proofs.lemmas.List.{drop-take}
use Rattle.std.proofs.lemmas.Slice.{take-put_mid_below, drop-put_mid}
use Rattle.std.specs.List.{range_with_len}
use Rattle.std.proofs.lemmas.List.FromFn.{map-range_with_len_more}
use borrow.Rule.Slice.PartMut.{put_mid}
use Rattle.pp_example.specs.Node.{word_at, count_of, key_at, value_at, entries_of, LeadsTo, Gains}
use Rattle.pp_example.specs.declared.node.Entry.{Entry}

-- A number before the bytes that are written stays.
pub word_at-before : (at k : ℕ) (body bytes : List ℕ) (other : ℕ) → other + 4 ≤ at → at ≤ length body
    → word_at (put_mid at k body bytes) other ≡ word_at body other
unfolding word_at
word_at-before at k body bytes other below long =
    ap (from_be_bytes w32)
    (sym (drop-take other 4 (put_mid at k body bytes))
    ∙ ap (drop other) (take-put_mid_below at k body bytes (other + 4) below long)
    ∙ drop-take other 4 body)

-- A number behind the bytes that are written stays.
pub word_at-behind : (at k : ℕ) (body bytes : List ℕ) (other : ℕ) → at + k ≤ other → at ≤ length body
    → length bytes ≡ k → word_at (put_mid at k body bytes) other ≡ word_at body other
unfolding word_at
word_at-behind at k body bytes other above long len =
    ap (λ rest. from_be_bytes w32 (take 4 rest)) (drop-put_mid at k body bytes other above long len)

-- The next entry's key is above the one that is looked for: the search stays where it is.
pub leads-on : (body : List ℕ) (n key value : ℕ) → LeadsTo body n key value → key < key_at body n
    → LeadsTo body (n + 1) key value
leads-on body n key value leads above = record {
  place = leads.place;
  within = omega (arith, leads.within);
  reached = leads.reached;
  last = λ i after within. grind (arith, leads.last i, above);
  leads = leads.leads;
}

-- The next entry's key isn't above it: the search goes there.
pub leads-here : (body : List ℕ) (n key : ℕ) → key_at body n ≤ key → LeadsTo body (n + 1) key (value_at body n)
leads-here body n key reached = record {
  place = n;
  within = omega arith;
  reached = reached;
  last = λ i after within. omega (arith, after, within);
  leads = refl;
}

-- Two functions that agree below n have the same first n values.
same-values : {X : Type 0} (f g : ℕ → X) (n : ℕ) → ((i : ℕ) → i < n → f i ≡ g i)
    → map f (range_with_len 0 n) ≡ map g (range_with_len 0 n)
same-values f g zero same = refl
same-values f g (suc n) same =
    subst (λ m. map f (range_with_len 0 m) ≡ map g (range_with_len 0 m)) (add-one n)
    (map-range_with_len_more f 0 n n (zero-add n)
    ∙ ap (λ xs. xs ++ f n ∷ []) (same-values f g n (λ i below. same i (omega (arith, below))))
    ∙ ap (λ x. map g (range_with_len 0 n) ++ x ∷ []) (same n (omega arith))
    ∙ sym (map-range_with_len_more g 0 n n (zero-add n)))

-- A node that gains an entry has it behind its others.
pub entries-gain : (old new : List ℕ) (key value : ℕ) → Gains old new key value
    → entries_of new ≡ entries_of old ++ record { key = key; value = value } ∷ []
entries-gain old new key value gains =
    let n : ℕ = count_of old in
    let at : List ℕ → ℕ → Entry = λ body i. record { key = key_at body i; value = value_at body i } in
    ap (λ m. map (at new) (range_with_len 0 m)) gains.count
    ∙ map-range_with_len_more (at new) 0 n n (zero-add n)
    ∙ ap (λ xs. xs ++ at new n ∷ []) (same-values (at new) (at old) n (λ i below.
    ap (λ k. record { key = k; value = value_at new i }) (gains.keys i below)
    ∙ ap (λ v. record { key = key_at old i; value = v }) (gains.values i below)))
    ∙ ap (λ k. entries_of old ++ record { key = k; value = value_at new n } ∷ []) gains.added_key
    ∙ ap (λ v. entries_of old ++ record { key = key; value = v } ∷ []) gains.added_value
