-- What a JSON value is, where a look into it found something.
use Rattle.std.proofs.Common.{◌≡◌, ℕ, List, Option, Some, None, option_and_then, ap}
use Rattle.serde_json.specs.Data.{unsigned, negative, float, Data, null, boolean, number, string, array, object, Items}
use Rattle.serde_json.specs.Data.{Members}
use Rattle.serde_json.specs.Find.{as_array, as_object, as_str, as_number, as_u64}

pub array_is : (d : Data) (ds : Items) → as_array d ≡ Some ds → d ≡ array ds
array_is (array es) ds e = cc
array_is null ds e = absurd cc
array_is (boolean b) ds e = absurd cc
array_is (number n) ds e = absurd cc
array_is (string s) ds e = absurd cc
array_is (object ms) ds e = absurd cc

pub object_is : (d : Data) (ms : Members) → as_object d ≡ Some ms → d ≡ object ms
object_is (object ns) ms e = cc
object_is null ms e = absurd cc
object_is (boolean b) ms e = absurd cc
object_is (number n) ms e = absurd cc
object_is (string s) ms e = absurd cc
object_is (array es) ms e = absurd cc

pub string_is : (d : Data) (text : List ℕ) → as_str d ≡ Some text → d ≡ string text
string_is (string s) text e = cc
string_is null text e = absurd cc
string_is (boolean b) text e = absurd cc
string_is (number n) text e = absurd cc
string_is (array es) text e = absurd cc
string_is (object ns) text e = absurd cc

pub number_is : (o : Option Data) (n : ℕ)
    → option_and_then as_u64 (option_and_then as_number o) ≡ Some n → o ≡ Some (number (unsigned n))
number_is (Some (number (unsigned m))) n e = cc
number_is (Some (number (negative z))) n e = absurd cc
number_is (Some (number (float x))) n e = absurd cc
number_is (Some null) n e = absurd cc
number_is (Some (boolean b)) n e = absurd cc
number_is (Some (string s)) n e = absurd cc
number_is (Some (array es)) n e = absurd cc
number_is (Some (object ns)) n e = absurd cc
number_is None n e = absurd cc

pub list_is : (o : Option Data) (ds : Items) → option_and_then as_array o ≡ Some ds → o ≡ Some (array ds)
list_is (Some d) ds e = ap (λ (x : Data). Some x) (array_is d ds e)
list_is None ds e = absurd cc
