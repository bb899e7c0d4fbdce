-- The room that an event asks for, by a shard's configurations and by its sessions.
use Rattle.bfd_engine.proofs.Common.{◌≡◌, ℕ, List, refl, Option, Some, length-map, Running, configs_of, ShardEvent, Own, Tick, room_for}
use Rattle.bfd_engine.proofs.Common.{Base, configs_in, room_in}

room_is : (ss : List Running) (e : ShardEvent) → room_in (configs_of ss) e ≡ room_for ss e
room_is ss (Own place moment event) = refl
room_is ss (Tick t) = cc (length-map ss (λ s. s.config))

pub room_by : {ss ts : List Running} {limit : ℕ} {base : Option Base} (e : ShardEvent) → ss ≡ ts
    → Some (record { configs = configs_of ts; limit = limit }) ≡ base
    → room_in (configs_in base) e ≡ room_for ss e
room_by {ss} e same is = cc (room_is ss e)
