use Rattle.std.proofs.Common.{◌≡◌, ◌≤◌}
use Rattle.std.specs.Prelude.{vec_len, vec_capacity}
use Rattle.pp_vault.specs.Opening.{opening_images}
use Rattle.pp_vault.proofs.opening.new_images.Given as goal

abbrev pub invariant-loop : goal.invariant-loop
invariant-loop l = record {
  items : l.images.items ≡ opening_images l.counter l.page_bytes;
  room : l.frames ≤ vec_capacity l.images;
  count : vec_len l.images ≡ l.counter;
}
