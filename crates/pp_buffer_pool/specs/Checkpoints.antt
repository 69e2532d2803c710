-- What a checkpoint answers.
use Rattle.std.specs.Prelude.{Bool, true, false}
use Rattle.pp_buffer_pool.specs.declared.error.CheckpointError.{CheckpointError}
use Rattle.pp_buffer_pool.specs.declared.error.CheckpointError.TheVariants.{Sync}

-- Whether the error is that of a sync.
abbrev pub is_of_sync : CheckpointError → Bool
is_of_sync (Sync fault) = true
is_of_sync _ = false
