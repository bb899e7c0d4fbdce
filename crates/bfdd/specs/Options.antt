-- The options of the command line: words in twos, a name and its value.
use Rattle.std.specs.Prelude.{ℕ, Bool, true, false, ◌&&◌, List, [], ◌∷◌, Option, Some, None, codes, if◌then◌else◌}
use Rattle.std.specs.List.{list_any}
use Rattle.std.specs.Str.{bytes_eq}
use Rattle.bfdd.specs.declared.words.job.Form.{Form}
use Rattle.bfdd.specs.declared.words.job.Form.TheVariants.{Hashed, Levels}
use Rattle.bfdd.specs.Numbers.{number_in}

infixl 10 ◌>>=◌
-- go on with the value, if there is one
abbrev pub ◌>>=◌ : {X Y : Type 0} → Option X → (X → Option Y) → Option Y
None >>= next = None
(Some value) >>= next = next value

-- words in twos, each name one of these
abbrev pub are_options : List (List ℕ) → List (List ℕ) → Bool
are_options names [] = true
are_options names (name ∷ []) = false
are_options names (name ∷ value ∷ words) = list_any (λ known. bytes_eq known name) names && are_options names words

-- the values of a name
abbrev pub values_of : List ℕ → List (List ℕ) → List (List ℕ)
values_of name [] = []
values_of name (first ∷ []) = []
values_of name (first ∷ value ∷ words) = if bytes_eq first name then value ∷ values_of name words else values_of name words

-- the one value, if there is one; nothing if there are more
abbrev pub at_most_one : List (List ℕ) → Option (Option (List ℕ))
at_most_one [] = Some None
at_most_one (value ∷ []) = Some (Some value)
at_most_one (value ∷ other ∷ values) = None

abbrev pub value_of : List ℕ → List (List ℕ) → Option (Option (List ℕ))
value_of name options = at_most_one (values_of name options)

-- the default if an option isn't given, and else what its value is read as
abbrev pub read_as : {X : Type 0} → (List ℕ → Option X) → X → Option (List ℕ) → Option X
read_as read default None = Some default
read_as read default (Some value) = read value

-- an option that is a number of a range
abbrev pub number_option : List ℕ → ℕ → ℕ → ℕ → List (List ℕ) → Option ℕ
number_option name least most default options = value_of name options >>= read_as (number_in least most) default

-- the timers that a word names
abbrev pub form_of : List ℕ → Option Form
form_of word =
    if bytes_eq word (codes "hashed") then Some Hashed
    else if bytes_eq word (codes "levels") then Some Levels
    else None

abbrev pub timers_of : List (List ℕ) → Option Form
timers_of options = value_of (codes "--timers") options >>= read_as form_of Hashed
