-- What the timer has to do with its orders at its ticks.
use Rattle.std.specs.Prelude.{ℕ, zero, suc, ◌+◌, ◌*◌, Bool, leb, List, [], ◌∷◌, ◌++◌, length, map, take, drop, if◌then◌else◌}
use Rattle.bfd_session.specs.declared.event.Event.TheVariants.{Command, Show as Showing}
use Rattle.bfd_session.specs.declared.event.Answer.TheVariants.{Handled}
use Rattle.bfd_shard.specs.declared.entry.ShardEvent.TheVariants.{Tick as TickEvent}
use Rattle.bfd_script.specs.declared.line.entries.Line.{Line}
use Rattle.bfd_script.specs.declared.line.entries.Line.TheVariants.{Rx, Tick, Cmd, Show}
use Rattle.bfd_engine.specs.Engines.{Shards}
use Rattle.bfd_engine.specs.Calls.{Act, Turns, Rests, asking_by_discr}

-- the line's moment has come by a tick
abbrev pub is_due : ℕ → Line → Bool
is_due t (Rx moment arrival) = leb moment (1000 * t)
is_due t (Tick u) = leb u t
is_due t (Cmd moment discr cmd) = leb moment (1000 * t)
is_due t (Show moment discr) = leb moment (1000 * t)

-- how many leading orders are due by a tick
abbrev pub orders_due : ℕ → List Line → ℕ
orders_due t [] = 0
orders_due t (order ∷ orders) = if is_due t order then orders_due t orders + 1 else 0

-- what an order resolves to; a packet and a tick are no orders, and resolve to nothing
abbrev pub order_act : Shards → Line → Act
order_act engine (Rx moment arrival) = Rests [] Handled
order_act engine (Tick t) = Rests [] Handled
order_act engine (Cmd moment discr cmd) = asking_by_discr engine moment discr (Command cmd)
order_act engine (Show moment discr) = asking_by_discr engine moment discr Showing

abbrev pub orders_acts : Shards → List Line → List Act
orders_acts engine orders = map (order_act engine) orders

-- each of the first n shards, ascending, is advanced to a tick
abbrev pub advances : ℕ → ℕ → List Act
advances zero t = []
advances (suc n) t = advances n t ++ Turns n (TickEvent t) ∷ []

-- a tick: first the leading orders that are due by it, then every shard
abbrev pub tick_acts : Shards → List Line → ℕ → List Act
tick_acts engine orders t = orders_acts engine (take (orders_due t orders) orders) ++ advances (length engine.locks) t

-- tick after tick, each with the orders that the earlier ones left
abbrev pub ticks_acts : Shards → List Line → List ℕ → List Act
ticks_acts engine orders [] = []
ticks_acts engine orders (t ∷ ts) = tick_acts engine orders t ++ ticks_acts engine (drop (orders_due t orders) orders) ts

-- the orders that the ticks leave
abbrev pub orders_left : List Line → List ℕ → List Line
orders_left orders [] = orders
orders_left orders (t ∷ ts) = orders_left (drop (orders_due t orders) orders) ts

-- all that the timer has to do: its ticks, and then the orders that are left, unless the ticker failed
abbrev pub timer_acts : Shards → List Line → List ℕ → Bool → List Act
timer_acts engine orders ticks failed =
    ticks_acts engine orders ticks ++ (if failed then [] else orders_acts engine (orders_left orders ticks))
