-- What is left to show of Stacks::move_record.
use Rattle.std.proofs.Common.{◌≡◌, rules, length, vec_len, arith}
use Rattle.pp_bundles.specs.Chains.{parts_of}
use Rattle.pp_bundles.proofs.MoveLemmas.{head_in, one_more_fits, kept_by, moved_by}
use Rattle.pp_bundles.proofs.stacks.Stacks.move_record.Goals as goal

pub index-record-requires : goal.index-record-requires
index-record-requires c =
    let below =
    head_in (parts_of c.self.inside) c.self.invariant c.args.self.now c.self.view_is c.args.from c.args.to c.args.page
    c.requires.apart c.requires.from c.requires.to c.requires.some c.index-source.result.now c.index-target.result.now
    c.index-source.ensures c.index-target.ensures in
    let long : vec_len c.self.inside.records ≡ length c.self.inside.records.items = search rules in
    omega (arith, long, below)

pub index_mut-requires : goal.index_mut-requires
index_mut-requires c =
    let below =
    head_in (parts_of c.self.inside) c.self.invariant c.args.self.now c.self.view_is c.args.from c.args.to c.args.page
    c.requires.apart c.requires.from c.requires.to c.requires.some c.index-source.result.now c.index-target.result.now
    c.index-source.ensures c.index-target.ensures in
    let long : vec_len c.self.inside.records ≡ length c.self.inside.records.items = search rules in
    omega (arith, long, below)

pub overflow_add-target : goal.overflow_add-target
overflow_add-target c =
    let fits =
    one_more_fits (parts_of c.self.inside) c.self.invariant c.args.self.now c.self.view_is c.args.from c.args.to
    c.args.page c.requires.apart c.requires.from c.requires.to c.requires.some c.index-source.result.now
    c.index-target.result.now c.index-source.ensures c.index-target.ensures in
    omega (arith, fits)

pub invariant_of-self : goal.invariant_of-self
invariant_of-self c =
    kept_by (parts_of c.self.inside) c.self.invariant c.args.self.now c.self.view_is c.args.from c.args.to c.args.page
    c.requires.apart c.requires.from c.requires.to c.requires.some c.index-source.result.now c.index-target.result.now
    c.index-source.ensures c.index-target.ensures c.index-record.result.now c.index-record.ensures

pub returns : goal.returns
returns c =
    moved_by (parts_of c.self.inside) c.self.invariant c.args.self.now c.self.view_is c.args.from c.args.to c.args.page
    c.requires.apart c.requires.from c.requires.to c.requires.some c.index-source.result.now c.index-target.result.now
    c.index-source.ensures c.index-target.ensures c.index-record.result.now c.index-record.ensures
