-- A statement's form as the program has it, with texts and values behind references.
use Rattle.serde_json.specs.View.{items_view}
use Rattle.pp_plan.specs.declared.shape.Shape as program
use Rattle.pp_plan.specs.declared.shape.Shape.TheVariants.{Fix, Unfix, Latch, Unlatch, Gather, Scatter, Loop, Choice}
use Rattle.pp_plan.specs.Shapes.{Shape, fix_shape, unfix_shape, latch_shape, unlatch_shape, gather_shape}
use Rattle.pp_plan.specs.Shapes.{scatter_shape, loop_shape, choice_shape}

abbrev pub shape_view : program.Shape → Shape
shape_view (Fix s r) = fix_shape s.now r.now
shape_view (Unfix s) = unfix_shape s.now
shape_view (Latch s m) = latch_shape s.now m
shape_view (Unlatch s) = unlatch_shape s.now
shape_view (Gather s r) = gather_shape s.now r.now
shape_view (Scatter s) = scatter_shape s.now
shape_view (Loop n b) = loop_shape n (items_view b.now)
shape_view (Choice bs) = choice_shape (items_view bs.now)
