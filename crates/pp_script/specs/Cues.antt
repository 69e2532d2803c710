-- How cues and troubles are spelled: as words, with one space between each two.
use Rattle.std.specs.Prelude.{ℕ, ◌≤◌, ◌<◌, ◌^◌, List, [], ◌∷◌, codes}
use Rattle.std.specs.List.{join_with_byte}
use Rattle.std.specs.Fmt.{decimal}
use Rattle.pp_device.specs.declared.failing.Trouble.{Trouble}
use Rattle.pp_device.specs.declared.failing.Trouble.TheVariants.{Fail, Lie}
use Rattle.pp_script.specs.declared.cue.Cue.{Cue}
use Rattle.pp_script.specs.declared.cue.Cue.TheVariants.{Take, Fix, Device, Unfix, Latch, Unlatch, Choose, Unwind}
use Rattle.pp_script.specs.declared.cue.Cue.TheVariants.{Finish, Flush, FlushDevice, Write, Look}

-- The words with one space between each two, and none at the ends.
abbrev pub with_spaces : List (List ℕ) → List ℕ
with_spaces words = join_with_byte 32 words

-- The words of a cue.
abbrev pub cue_words : Cue → List (List ℕ)
cue_words (Take w) = codes "take" ∷ decimal w ∷ []
cue_words (Fix w page) = codes "fix" ∷ decimal w ∷ decimal page ∷ []
cue_words (Device w) = codes "device" ∷ decimal w ∷ []
cue_words (Unfix w) = codes "unfix" ∷ decimal w ∷ []
cue_words (Latch w) = codes "latch" ∷ decimal w ∷ []
cue_words (Unlatch w) = codes "unlatch" ∷ decimal w ∷ []
cue_words (Choose w branch) = codes "choose" ∷ decimal w ∷ decimal branch ∷ []
cue_words (Unwind w slot) = codes "unwind" ∷ decimal w ∷ decimal slot ∷ []
cue_words (Finish w) = codes "finish" ∷ decimal w ∷ []
cue_words (Flush page) = codes "flush" ∷ decimal page ∷ []
cue_words FlushDevice = codes "flushdevice" ∷ []
cue_words (Write w slot byte) = codes "write" ∷ decimal w ∷ decimal slot ∷ decimal byte ∷ []
cue_words (Look w slot) = codes "look" ∷ decimal w ∷ decimal slot ∷ []

-- What is written of a cue, as in `fix 0 16`.
abbrev pub cue_text : Cue → List ℕ
cue_text cue = with_spaces (cue_words cue)

-- The numbers of a cue have 32 bits each, and its byte has 8.
abbrev pub FitsCue : Cue → Type 0
FitsCue (Take w) = w < 2 ^ 32
FitsCue (Fix w page) = (w < 2 ^ 32) × (page < 2 ^ 32)
FitsCue (Device w) = w < 2 ^ 32
FitsCue (Unfix w) = w < 2 ^ 32
FitsCue (Latch w) = w < 2 ^ 32
FitsCue (Unlatch w) = w < 2 ^ 32
FitsCue (Choose w branch) = (w < 2 ^ 32) × (branch < 2 ^ 32)
FitsCue (Unwind w slot) = (w < 2 ^ 32) × (slot < 2 ^ 32)
FitsCue (Finish w) = w < 2 ^ 32
FitsCue (Flush page) = page < 2 ^ 32
FitsCue FlushDevice = Unit {0}
FitsCue (Write w slot byte) = (w < 2 ^ 32) × (slot < 2 ^ 32) × (byte < 2 ^ 8)
FitsCue (Look w slot) = (w < 2 ^ 32) × (slot < 2 ^ 32)

-- The words of a trouble at call n of the device: that the call fails, or that it lies, with a page and a stamp.
abbrev pub trouble_words : ℕ → Trouble → List (List ℕ)
trouble_words n Fail = codes "fail" ∷ decimal n ∷ []
trouble_words n (Lie page stamp) = codes "lie" ∷ decimal n ∷ decimal page ∷ decimal stamp ∷ []

-- Calls are counted from 1 to 2^32 - 1. A page has 32 bits, and a stamp 64.
abbrev pub FitsTrouble : ℕ → Trouble → Type 0
FitsTrouble n Fail = (1 ≤ n) × (n < 2 ^ 32)
FitsTrouble n (Lie page stamp) = (1 ≤ n) × (n < 2 ^ 32) × (page < 2 ^ 32) × (stamp < 2 ^ 64)
