-- What a seat at the lock's table knows, and how each step changes it.
use Rattle.std.specs.Prelude.{ℕ, ◌+◌, ◌*◌, max, List, [], ◌∷◌, ◌++◌, Some, None}
use Rattle.bfd_turn.specs.declared.view.View.{View}
use Rattle.bfd_turn.specs.declared.view.Known.{Known}
use Rattle.bfd_turn.specs.declared.view.Role.TheVariants.{Idle, Holding, Joined}
use Rattle.bfd_turn.specs.Lists.{longer, shorter, calls}

module _ {N B : Type 0} where
  -- what the lock's callers see of a view
  abbrev pub known : View N B → Known N B
  known v = record {
    number = v.number;
    base = v.base;
    seen = v.seen;
    word = v.word;
    looks = v.looks;
    taken = v.taken;
    made = v.made;
    joined = v.joined;
  }

  -- a pass that was joined knows nothing, and has given back nothing
  abbrev pub joined_view : View N B
  joined_view = record {
    role = Joined;
    number = 0;
    base = None;
    seen = [];
    reported = [];
    own = [];
    word = 0;
    looks = [];
    taken = 0;
    made = [];
    joined = [];
  }

  abbrev pub known_of : List (View N B) → Known N B
  known_of [] = known joined_view
  known_of (v ∷ vs) = known v

  -- caller 0 of a new lock
  abbrev pub newcomer : B → ℕ → View N B
  newcomer base turns = record {
    role = Idle;
    number = 0;
    base = Some base;
    seen = [];
    reported = [];
    own = [];
    word = 2 * turns;
    looks = [];
    taken = turns;
    made = [];
    joined = [];
  }

  -- caller 0, after it has made the pass n
  abbrev pub parent : ℕ → View N B → View N B
  parent n v = record v { made = v.made ++ n ∷ [] }

  -- the pass n that caller 0 has made
  abbrev pub offspring : ℕ → View N B → View N B
  offspring n v = record {
    role = Idle;
    number = n;
    base = v.base;
    seen = v.seen;
    reported = [];
    own = [];
    word = v.word;
    looks = [];
    taken = 0;
    made = [];
    joined = [];
  }

  -- caller 0, after it has joined another pass
  abbrev pub glued : (N → ℕ) → View N B → View N B → View N B
  glued by v w = record {
    role = v.role;
    number = v.number;
    base = v.base;
    seen = longer v.seen w.seen;
    reported = shorter v.seen w.seen;
    own = v.seen;
    word = max v.word w.word;
    looks = v.looks;
    taken = v.taken + w.taken;
    made = v.made;
    joined = v.joined ++ (w.number, calls by w.number w.seen) ∷ [];
  }

  -- it has met the word n, and these are the words of its loads
  abbrev pub at_word : ℕ → List ℕ → View N B → View N B
  at_word n looks v = record v { word = n; looks = looks }

  -- it has met the word n
  abbrev pub met : ℕ → View N B → View N B
  met n v = at_word n v.looks v

  -- it has met the word n by a load
  abbrev pub having_looked : ℕ → View N B → View N B
  having_looked n v = at_word n (v.looks ++ n ∷ []) v

  -- it holds the turn, at the word n, with a value of these notes
  abbrev pub holding : List N → ℕ → View N B → View N B
  holding notes n v = record v { role = Holding; seen = notes; word = n }

  -- it has given the turn back, with a value of these notes
  abbrev pub idle_after : List N → View N B → View N B
  idle_after notes v = record v { role = Idle; seen = notes; own = notes; word = v.word + 1; taken = v.taken + 1 }
