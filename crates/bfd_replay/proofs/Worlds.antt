-- The world of a replay is one shard with every session.
use Rattle.bfd_replay.proofs.PlanCommon.{◌≡◌, ◌∙◌, ℕ, List, [], ◌∷◌, map, refl, sym, Option, None, Some, Result, Ok, Err, slice_get}
use Rattle.bfd_replay.proofs.PlanCommon.{cons_option, filter_map, Reflector, SessionConfig, Line, Happening, Apart, Among, session_event}
use Rattle.bfd_replay.proofs.PlanCommon.{events_of_table, happening, happening_by, happenings, reflecting, left_by, left_runs, Event}
use Rattle.bfd_replay.proofs.PlanCommon.{started, Running, configs_of}
use Rattle.bfd_packet.specs.declared.arrival.Datagram.{Datagram}
use Rattle.bfd_packet.specs.declared.discard.Test.{Test}
use Rattle.bfd_sbfd.specs.Reflect.{reflect}
use Rattle.bfd_session.proofs.Starting.{started_configs}
use Rattle.bfd_shard.specs.declared.entry.ShardEvent.{ShardEvent}
use Rattle.bfd_shard.specs.declared.entry.ShardEvent.TheVariants.{Own, Tick}
use Rattle.bfd_shard.specs.History.{later, moved, own_moved, own_outcome, outcome_of, runs}
use Rattle.bfd_script.specs.Doing.{Doing, Rests, Reflects, Happens, Passes, doing}
use Rattle.bfd_script.specs.Reading.{Lists}
use Rattle.bfd_script.specs.Sound.{IsScript}
use Rattle.bfd_replay.specs.Happenings as gather
use Rattle.bfd_instance.specs.World.{World, Turn, own, own_of, ticks, carried_out, happens, outcomes, world_after, reflected, opened, world}
use Rattle.bfd_instance.specs.World as worlds
use Rattle.bfd_instance.specs.Stage.{IsTable}
use Rattle.bfd_instance.proofs.SameConfigs.{happens_keeps}

pub is_table : (script : Lists) → IsScript script → IsTable script.configs script.pool
is_table script s = record { configs = s.configs; pool = s.pool; apart = s.apart; few = s.few }

-- what happens, to a world
abbrev turn_of : Happening → World → Turn
turn_of (Apart outcome) w = record { world = w; outcome = outcome }
turn_of (Among event) w = record {
  world = record w { sessions = moved w.last event w.sessions; last = later w.last event };
  outcome = outcome_of w.last event w.sessions;
}

reflected_is : (reflector : Option Reflector) (answer : Result Datagram Test) (w : World)
    → reflected reflector answer w ≡ turn_of (Apart (reflecting reflector answer)) w
reflected_is reflector (Err test) w = refl
reflected_is None (Ok datagram) w = refl
reflected_is (Some reflector) (Ok datagram) w = refl

own_by : (o : Option Running) (place moment : ℕ) (event : Event) (w : World)
    → own_of o place moment event w ≡ record {
      world = record w { sessions = own_moved o place moment w.last event w.sessions };
      outcome = own_outcome o moment w.last event;
    }
own_by None place moment event w = refl
own_by (Some s) place moment event w = refl

own_is : (place moment : ℕ) (event : Event) (w : World) → own place moment event w ≡ turn_of (Among (Own place moment event)) w
unfolding own moved outcome_of
own_is place moment event w = own_by (slice_get w.sessions place) place moment event w

ticks_is : (t : ℕ) (w : World) → ticks t w ≡ turn_of (Among (Tick t)) w
unfolding ticks moved outcome_of
ticks_is t w = refl

done_is : (what : Doing) (w : World) → carried_out what w ≡ turn_of (happening_by w.pool what) w
done_is (Rests answer) w = refl
done_is (Reflects place arrival) w = reflected_is (slice_get w.pool place) (reflect w.pool arrival) w
done_is (Happens place moment event) w = own_is place moment event w
done_is (Passes t) w = ticks_is t w

happens_is : (line : Line) (w : World) → happens line w ≡ turn_of (happening (configs_of w.sessions) w.pool line) w
happens_is line w = done_is (doing (configs_of w.sessions) w.pool line) w

pool_stays : (h : Happening) (w : World) → (turn_of h w).world.pool ≡ w.pool
pool_stays (Apart outcome) w = refl
pool_stays (Among event) w = refl

outcomes_step : (h : Happening) (rest : List Happening) (w : World)
    → gather.happening_outcomes w.last (h ∷ rest) w.sessions
    ≡ (turn_of h w).outcome ∷ gather.happening_outcomes (turn_of h w).world.last rest (turn_of h w).world.sessions
outcomes_step (Apart outcome) rest w = refl
outcomes_step (Among event) rest w = refl

left_step : (h : Happening) (es : List ShardEvent) (w : World)
    → left_by w.last (cons_option (session_event h) es) w.sessions ≡ left_by (turn_of h w).world.last es (turn_of h w).world.sessions
left_step (Apart outcome) es w = refl
left_step (Among event) es w = refl

-- a line, of configurations and a pool that stay
pub record Stays (cs : List SessionConfig) (pool : List Reflector) (w : World) : Type 0 where
  pub configs : configs_of w.sessions ≡ cs
  pub same_pool : w.pool ≡ pool

stays_on : {cs : List SessionConfig} {pool : List Reflector} (line : Line) {w : World} → Stays cs pool w
    → Stays cs pool (happens line w).world
stays_on line {w} s = record {
  configs = happens_keeps line w ∙ s.configs;
  same_pool = cc (happens_is line w, pool_stays (happening (configs_of w.sessions) w.pool line) w);
}

turn_is : {cs : List SessionConfig} {pool : List Reflector} (line : Line) {w : World} → Stays cs pool w
    → happens line w ≡ turn_of (happening cs pool line) w
turn_is line {w} s = cc (happens_is line w)

outcomes_are : (cs : List SessionConfig) (pool : List Reflector) (lines : List Line) {w : World} → Stays cs pool w
    → outcomes lines w ≡ gather.happening_outcomes w.last (happenings cs pool lines) w.sessions
outcomes_are cs pool [] s = refl
outcomes_are cs pool (line ∷ lines) {w} s =
    cc (outcomes_are cs pool lines (stays_on line s), turn_is line s, outcomes_step (happening cs pool line) (happenings cs pool lines) w)

after_are : (cs : List SessionConfig) (pool : List Reflector) (lines : List Line) {w : World} → Stays cs pool w
    → (world_after lines w).sessions ≡ left_by w.last (filter_map session_event (happenings cs pool lines)) w.sessions
after_are cs pool [] s = refl
after_are cs pool (line ∷ lines) {w} s =
    cc (
      after_are cs pool lines (stays_on line s),
      turn_is line s,
      left_step (happening cs pool line) (filter_map session_event (happenings cs pool lines)) w,
    )

-- what a script's events give
pub world_is : (script : Lists) → gather.happening_outcomes 0 (happenings script.configs script.pool script.events)
    (map started script.configs) ≡ world script
world_is script = sym (outcomes_are script.configs script.pool script.events {w = opened script.configs script.pool}
    (record { configs = started_configs script.configs; same_pool = refl }))

-- the sessions that it leaves
pub left_is : (script : Lists) → (worlds.world_left script).sessions ≡ runs (events_of_table script) script.configs
left_is script =
    after_are script.configs script.pool script.events {w = opened script.configs script.pool}
    (record { configs = started_configs script.configs; same_pool = refl })
    ∙ left_runs (events_of_table script) script.configs
