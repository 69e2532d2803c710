use Rattle.std.proofs.Common.{◌≡◌, arith, ap, ◌∙◌, map, take, List, String, Global, ◌++◌, ◌-◌, replicate}
use Rattle.std.proofs.Common.{string_bytes}
use Rattle.std.proofs.lemmas.List.{length-set, take_all}
use Rattle.std.specs.Option.{unwrap_or}
use Rattle.pp_plan.specs.Numbering.{position_of, new_number}
use Rattle.pp_plan.proofs.Renumbering.{filled_more, table_is}
use Rattle.pp_plan.proofs.numbering.new_numbers.Goals as goal

pub loop-slot-preserved : goal.loop-slot-preserved
loop-slot-preserved c =
    let ordered = map string_bytes c.args.ordered.now in
    let number : c.unwrap_or.result ≡ new_number ordered (string_bytes c.index-names-slot.result) =
    c.unwrap_or.ensures
    ∙ ap (λ o. unwrap_or o 0) (c.position_of.ensures ∙ ap (position_of ordered) c.as_str.ensures.value) in
    record {
      long = length-set c.loop-slot.numbers c.loop-slot.slot c.unwrap_or.result ∙ c.loop-slot.invariant.long;
      filled =
          filled_more (λ s. new_number ordered (string_bytes s)) c.args.names.now c.loop-slot.numbers c.loop-slot.slot
          c.unwrap_or.result c.index-names-slot.result (omega arith) c.requires.names c.index-names-slot.is number
          c.loop-slot.invariant.filled;
    }

pub returns : goal.returns
returns c =
    let all : take c.loop-slot.slot c.args.names.now ≡ c.args.names.now =
    take_all c.loop-slot.slot c.args.names.now c.loop-slot-test.false in
    table_is c.args.ordered.now c.args.names.now c.loop-slot.numbers (32 - c.loop-slot.slot)
    (c.loop-slot.invariant.filled ∙ ap
    (λ (xs : List (String Global)). map (λ s. new_number (map string_bytes c.args.ordered.now) (string_bytes s)) xs
    ++ replicate (32 - c.loop-slot.slot) 0) all)
