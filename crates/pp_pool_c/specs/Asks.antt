-- What comes next, and whom a call has told, as C sees it.
use Rattle.std.specs.Prelude.{ℕ, Bool, true, false, Option, None, unwrap_or, Result, Ok, Err}
use Rattle.pp_model.specs.Refusals.{failure_row}
use Rattle.pp_pool.specs.declared.work.End.TheVariants as end
use Rattle.pp_steps.specs.declared.error.PassError.{PassError}
use Rattle.pp_steps.specs.declared.going.Went.{Went}
use Rattle.pp_steps.specs.declared.going.Went.TheVariants as went
use Rattle.pp_steps.specs.declared.rings.Rings.{Rings}
use Rattle.pp_steps.specs.declared.step.Step.{Step}
use Rattle.pp_steps.specs.declared.step.Step.TheVariants as step
use Rattle.pp_pool_c.specs.declared.ask.Ask.{Ask}
use Rattle.pp_pool_c.specs.declared.told.Told.{Told}

-- No step.
abbrev pub no_ask : Ask
no_ask = record {
  step = 0;
  slot = 0;
  region = 0;
  first = 0;
  count = 0;
  page = 4294967295;
  why = 0;
  unused = 0;
}

-- A step that is about nothing; a slot's page; a page that is to be named; a call of the device.
abbrev pub plain : (step : ℕ) → Ask
plain step = record no_ask { step = step }

-- A step about a slot, and the page in it, if there is one.
abbrev pub of_slot : (step slot : ℕ) → Option ℕ → Ask
of_slot step slot page = record no_ask { step = step; slot = slot; page = unwrap_or page 4294967295 }

-- A step that names one of these pages.
abbrev pub of_pages : (step slot region first count : ℕ) → Ask
of_pages step slot region first count =
    record no_ask { step = step; slot = slot; region = region; first = first; count = count }

-- A step of the device with this page.
abbrev pub of_device : (step page : ℕ) → Ask
of_device step page = record no_ask { step = step; page = page }

-- What this step is to C.
abbrev pub ask_of : Step → Ask
ask_of step.Take = plain 1
ask_of (step.Fix slot region first count) = of_pages 2 slot region first count
ask_of (step.Gather slot region first count) = of_pages 3 slot region first count
ask_of (step.Unfix slot page) = of_slot 4 slot page
ask_of (step.Scatter slot) = of_slot 5 slot None
ask_of (step.LatchShared slot page) = of_slot 6 slot page
ask_of (step.LatchExclusive slot page) = of_slot 7 slot page
ask_of (step.Unlatch slot page) = of_slot 8 slot page
ask_of (step.Choose branches) = record no_ask { step = 9; count = branches }
ask_of step.Finish = plain 10
ask_of (step.Read page) = of_device 11 page
ask_of (step.Write page) = of_device 12 page
ask_of step.Leave = plain 13
ask_of step.Flush = plain 16
ask_of (step.Tell page) = of_device 17 page

-- What a step has led to, to C.
abbrev pub ask_went : Went → Ask
ask_went (went.On step) = ask_of step
ask_went (went.Over end.Done) = plain 14
ask_went (went.Over (end.Gone page why)) = record (of_device 15 page) { why = (failure_row why).number }

-- What is told of the next step, where there is one.
abbrev pub ask_next : Result Step PassError → Ask
ask_next (Ok step) = ask_of step
ask_next (Err why) = no_ask

-- One where it is so, and else none.
abbrev pub one_if : Bool → ℕ
one_if true = 1
one_if false = 0

-- Whom a call has told, to C; and nobody.
abbrev pub told_of : Rings → Told
told_of rings = record {
  running = rings.running;
  next = unwrap_or rings.next 4294967295;
  all = one_if rings.all;
  flusher = one_if rings.flusher;
}

abbrev pub told_nobody : Told
told_nobody = record { running = 0; next = 4294967295; all = 0; flusher = 0 }
