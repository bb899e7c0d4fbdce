-- The grammar of the command line. The numbers come first, then the options.
use Rattle.std.specs.Prelude.{ℕ, ◌==◌, Bool, true, not, ◌&&◌, List, [], ◌∷◌, ◌++◌, length, drop, nat_le, is_some, take_while, Option, Some}
use Rattle.std.specs.Prelude.{None, codes, if◌then◌else◌}
use Rattle.std.specs.List.{filter_map, list_any}
use Rattle.std.specs.Str.{bytes_eq}
use Rattle.bfdd.specs.declared.words.job.Hands.{Hands}
use Rattle.bfdd.specs.declared.words.job.Job.{Job}
use Rattle.bfdd.specs.declared.words.job.Job.TheVariants.{Replay, Serve, Load, Pair, Watch}
use Rattle.bfdd.specs.Numbers.{number_in}
use Rattle.bfdd.specs.Options.{◌>>=◌, are_options, number_option, timers_of}

-- the options of every command that runs on hands, and those of `serve`
abbrev pub hands_names : List (List ℕ)
hands_names = codes "--shards" ∷ codes "--workers" ∷ codes "--timers" ∷ []

abbrev pub serve_names : List (List ℕ)
serve_names = hands_names ++ codes "--turns" ∷ codes "--ticks" ∷ codes "--journal" ∷ []

-- `[--shards N] [--workers N] [--timers hashed|levels]`
abbrev pub hands_of : ℕ → List (List ℕ) → Option Hands
hands_of workers options = do
  shards ← number_option (codes "--shards") 1 64 1 options
  workers ← number_option (codes "--workers") 1 64 workers options
  timers ← timers_of options
  Some (record { shards = shards; workers = workers; timers = timers })

-- what follows, if the words are options of these names
abbrev pub with_options : List (List ℕ) → List (List ℕ) → Option Job → Option Job
with_options names words job = if are_options names words then job else None

abbrev pub replay_of : List (List ℕ) → Option Job
replay_of options = with_options hands_names options (do
  hands ← hands_of 1 options
  Some (Replay hands))

-- `[--turns N] [--ticks N] [--journal N]`, and hands
abbrev pub serve_of : List (List ℕ) → Option Job
serve_of options = with_options serve_names options (do
  hands ← hands_of 5 options
  turns ← number_option (codes "--turns") 1 1000000000 1000000 options
  ticks ← number_option (codes "--ticks") 0 1000000000 10000 options
  journal ← number_option (codes "--journal") 1 200000 65536 options
  Some (Serve hands turns ticks journal))

-- `SESSIONS TICKS SEED`, and hands
abbrev pub load_by : List ℕ → List ℕ → List ℕ → List (List ℕ) → Option Job
load_by sessions ticks seed options = with_options hands_names options (do
  sessions ← number_in 1 5000 sessions
  ticks ← number_in 1 6000 ticks
  seed ← number_in 0 4294967295 seed
  hands ← hands_of 1 options
  Some (Load sessions ticks seed hands))

abbrev pub load_of : List (List ℕ) → Option Job
load_of (sessions ∷ ticks ∷ seed ∷ options) = load_by sessions ticks seed options
load_of words = None

-- `EVENTS SEED`
abbrev pub pair_job : List (List ℕ) → Option Job
pair_job (events ∷ seed ∷ []) = do
  events ← number_in 1 100000 events
  seed ← number_in 0 4294967295 seed
  Some (Pair events seed)
pair_job words = None

-- a discriminator
abbrev pub member_of : List ℕ → Option ℕ
member_of word = number_in 1 4294967295 word

-- the discriminators that the words begin with
abbrev pub leading : List (List ℕ) → List ℕ
leading words = filter_map member_of (take_while (λ word. is_some (member_of word)) words)

-- no number is present twice
abbrev pub are_distinct : List ℕ → Bool
are_distinct [] = true
are_distinct (first ∷ numbers) = not (list_any (λ other. other == first) numbers) && are_distinct numbers

-- these members, of which so many must be Up
abbrev pub watch_by : List ℕ → List ℕ → List (List ℕ) → Option Job
watch_by need members options =
    if nat_le (length members) 64 && are_distinct members
    then with_options (codes "--shards" ∷ []) options (do
      need ← number_in 1 (length members) need
      shards ← number_option (codes "--shards") 1 64 1 options
      Some (Watch need members shards))
    else None

-- `NEED DISCR [DISCR ..] [--shards N]`
abbrev pub watch_of : List (List ℕ) → Option Job
watch_of [] = None
watch_of (need ∷ words) = watch_by need (leading words) (drop (length (leading words)) words)

-- the job that the first word names
abbrev pub job_of : List (List ℕ) → Option Job
job_of [] = None
job_of (word ∷ words) =
    if bytes_eq word (codes "replay") then replay_of words
    else if bytes_eq word (codes "serve") then serve_of words
    else if bytes_eq word (codes "load") then load_of words
    else if bytes_eq word (codes "pair") then pair_job words
    else if bytes_eq word (codes "watch") then watch_of words
    else None
