-- What a crash leaves of a device whose power may fail.
use Rattle.std.proofs.Common.{◌≡◌, ℕ, suc, ◌<◌, ◌&&◌, Bool, true, false, List, [], ◌∷◌, length, map, slice_index_or, refl, sym, ◌∙◌, ap, subst, inl, inr, rules, get_or-set_same, get_or-set_other}
use Rattle.std.specs.Prelude.{Some, slice_get, if◌then◌else◌}
use Rattle.std.proofs.Math.ListN.{get_or-map}
use Rattle.pp_durable.specs.Crash.{IsTorn}
use Rattle.pp_test_durable.specs.Leaves.{Image, settled}
use Rattle.pp_test_durable.specs.Power.{Powered, PowerLeaves, PowerIsDurable, image_at, no_leaf, is_served, is_begun, is_done, is_synced, counted, shown_so}
use Rattle.pp_test_durable.proofs.Steps.{torn-none}

-- Lists that are the same at each place are the same.
ext : (xs ys : List ℕ) → ((k : ℕ) → slice_get xs k ≡ slice_get ys k) → xs ≡ ys
ext [] [] same = refl
ext [] (y ∷ ys) same = let first = same 0 in cc
ext (x ∷ xs) [] same = let first = same 0 in cc
ext (x ∷ xs) (y ∷ ys) same =
    let first : Some x ≡ Some y = same 0 in
    let rest : xs ≡ ys = ext xs ys (λ k. same (suc k)) in
    cc

-- Between an image and itself nothing is torn.
torn-same : (s image : List ℕ) → IsTorn s s image → image ≡ s
torn-same s image torn = ext image s (λ k. elim (torn.each k) [ inl is ↦ is | inr is ↦ is ])

torn-new : (old s image : List ℕ) → IsTorn s s image → IsTorn old s image
torn-new old s image torn = record { each = λ k. inr (elim (torn.each k) [ inl is ↦ is | inr is ↦ is ]) }

-- A page of several of which all were settled.
settled-at : (xs : List Image) (page : ℕ) → slice_index_or (map settled xs) page no_leaf ≡ settled (slice_index_or xs page no_leaf)
settled-at xs page = get_or-map settled xs page no_leaf

shown-after : (done : Bool) (xs : List Image) (page : ℕ)
    → (slice_index_or (if done then map settled xs else xs) page no_leaf).shown ≡ (slice_index_or xs page no_leaf).shown
shown-after true xs page = ap (λ i. i.shown) (settled-at xs page)
shown-after false xs page = refl

left-before : (done : Bool) (xs : List Image) (page : ℕ) (image : List ℕ)
    → IsTorn (slice_index_or (if done then map settled xs else xs) page no_leaf).medium
    (slice_index_or (if done then map settled xs else xs) page no_leaf).shown image
    → IsTorn (slice_index_or xs page no_leaf).medium (slice_index_or xs page no_leaf).shown image
left-before true xs page image left =
    torn-new (slice_index_or xs page no_leaf).medium (slice_index_or xs page no_leaf).shown image
    (subst (λ i. IsTorn i.medium i.shown image) (settled-at xs page) left)
left-before false xs page image left = left

-- ---- one writing, begun or not

others-by : (begun done : Bool) (d : Powered) (page other : ℕ) (slice image : List ℕ) → (other ≡ page → ⊥)
    → PowerLeaves (if begun then counted (shown_so d page slice) done else counted d done) other image
    → PowerLeaves d other image
others-by true done d page other slice image ne left =
    subst (λ i. IsTorn i.medium i.shown image)
    (get_or-set_other d.images page other (record (image_at d page) { shown = slice }) no_leaf ne) left
others-by false done d page other slice image ne left = left

torn-by : (begun done : Bool) (d : Powered) (page : ℕ) (slice image : List ℕ) → (begun ≡ true → page < length d.images)
    → PowerLeaves (if begun then counted (shown_so d page slice) done else counted d done) page image
    → (old : List ℕ) × PowerLeaves d page old × IsTorn old slice image
torn-by true done d page slice image there left = (
  (image_at d page).medium,
  torn-none (image_at d page).medium (image_at d page).shown,
  subst (λ i. IsTorn i.medium i.shown image)
      (get_or-set_same d.images page (record (image_at d page) { shown = slice }) no_leaf (there refl)) left,
)
torn-by false done d page slice image there left = (image, left, torn-none image slice)

served-page : (d : Powered) (page len : ℕ) → (is_served d page len && is_begun d) ≡ true → page < length d.images
served-page d page len is = search rules

pub power-durable : PowerIsDurable
power-durable =
    record {
      synced = λ d e page image is r left.
          let all : e.images ≡ map settled d.images =
          ap (λ x. x.images) r.after ∙ ap (λ b. if b then map settled d.images else d.images) (sym r.is_done) in
          let at : image_at e page ≡ settled (image_at d page) =
          ap (λ xs. slice_index_or xs page no_leaf) all ∙ settled-at d.images page in
          torn-same (image_at d page).shown image (subst (λ i. IsTorn i.medium i.shown image) at left);
      sync_keeps = λ d e page answer is r.
          ap (λ x. (image_at x page).shown) r.after ∙ shown-after (is_synced d) d.images page;
      sync_adds = λ d e page image answer is r left.
          left-before (is_synced d) d.images page image (subst (λ x. PowerLeaves x page image) r.after left);
      read_adds = λ d e page other slice given image answer is r left. subst (λ x. PowerLeaves x other image) r.after left;
      others = λ d e page other slice image answer is r ne left.
          others-by (is_served d page (length slice) && is_begun d) (is_served d page (length slice) && is_done d) d page other
          slice image ne (subst (λ x. PowerLeaves x other image) r.after left);
      torn = λ d e page slice image answer is r left.
          torn-by (is_served d page (length slice) && is_begun d) (is_served d page (length slice) && is_done d) d page slice
          image (served-page d page (length slice)) (subst (λ x. PowerLeaves x page image) r.after left);
      after_sync = λ d e answer is r. refl;
      after_read = λ d e page slice given answer is r. refl;
      after_write = λ d e page image answer is r. refl;
    }
