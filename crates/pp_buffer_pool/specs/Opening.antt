-- Whether a device is that of a pool's settings, as opening the pool finds it.
use Rattle.std.specs.Prelude.{◌≡◌, ◌⊎◌, ℕ, ◌+◌, ◌-◌, ◌==◌, ◌&&◌, Bool, true, false, is_ok, is_err, None, List, [], ◌∷◌}
use Rattle.std.specs.Prelude.{◌++◌, length, if◌then◌else◌}
use Rattle.std.specs.declared.vec.Vec.{Vec}
use Rattle.pp_settings.specs.Layout.{page_count}
use Rattle.pp_settings.specs.Settings.{Configuration, geometry_of}
use Rattle.pp_device.specs.declared.device.Device as Device
use Rattle.pp_device.specs.Answers.{Answer}
use Rattle.pp_device.specs.Image.{head_of}
use Rattle.pp_hall.specs.declared.error.OpenError.TheVariants.{OutOfMemory}
use Rattle.pp_hall.specs.Calls as hall
use Rattle.pp_buffer_pool.specs.declared.error.OpenError.{OpenError}
use Rattle.pp_buffer_pool.specs.declared.error.OpenError.TheVariants.{Hall, OtherDevice}

-- ---- one end of the device

-- Whether the page was read, and the head of its image names it.
abbrev pub is_own : (page : ℕ) → Answer → (image : List ℕ) → Bool
is_own page answer image = is_ok answer && ((head_of image).0 == page)

-- One call of the device, a reading of this page into so many bytes. Whether the page was read and its image is its own, and what the
-- call leaves of the device.
pub record LooksAt {D : Type 0} (d : Device.Ghosts D) (bytes page : ℕ) (old : D) (own : Bool) (new : D) : Type 0 where
  pub before : List ℕ
  pub answer : Answer
  pub image : List ℕ
  pub long : (length before ≡ bytes) × (length image ≡ bytes)
  pub given : d.read_gives old page before answer image new
  pub called : d.calls new ≡ d.calls old + 1
  pub failed : d.failures new ≡ (if is_err answer then d.failures old + 1 else d.failures old)
  pub told : own ≡ is_own page answer image

-- ---- all ends

-- The last page of these settings.
abbrev pub last_page : Configuration → ℕ
last_page c = page_count (geometry_of c) - 1

-- Whether the last page of these settings was found by one call of the last of the devices, the flusher's. All others stay as they
-- are.
pub record LooksByLast {D : Type 0} (d : Device.Ghosts D) (c : Configuration) (old : List D) (own : Bool) (new : List D)
    : Type 0 where
  pub chairs : List D
  pub end : D
  pub left : D
  pub was : old ≡ chairs ++ end ∷ []
  pub is : new ≡ chairs ++ left ∷ []
  pub looks : LooksAt d c.page_bytes (last_page c) end own left

-- A reading by the last of the devices found the last page of these settings.
pub record HasLastPage {D : Type 0} (d : Device.Ghosts D) (c : Configuration) (devices : List D) : Type 0 where
  pub left : List D
  pub looks : LooksByLast d c devices true left

-- Why no pool is opened with so many devices: the first fault; or there is none, and memory ran out, or the page that is told is the
-- last. (That it wasn't found `ComeBack` says.)
abbrev pub OpenFails : Configuration → (devices : ℕ) → OpenError → Type 0
OpenFails c devices (Hall fault) = hall.OpenFails c devices fault
OpenFails c devices (OtherDevice page) = (hall.open_fault c devices ≡ None) × (page ≡ last_page c)

-- The devices that come back: with a fault of the settings, or of the number of devices, as they were; where the last page wasn't found,
-- as looking for it left them; and with want of memory as they were, or as finding that page left them.
abbrev pub ComeBack : {D Z : Type 0} → Device.Ghosts D → Configuration → OpenError → (devices back : Vec D Z) → Type 0
ComeBack d c (OtherDevice page) devices back = LooksByLast d c devices.items false back.items
ComeBack d c (Hall OutOfMemory) devices back = (back ≡ devices) ⊎ LooksByLast d c devices.items true back.items
ComeBack d c (Hall fault) devices back = back ≡ devices
