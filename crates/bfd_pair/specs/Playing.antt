-- What the program keeps of the two while it plays.
use Rattle.std.specs.Prelude.{◌≡◌, ◌≤◌, ◌*◌, ℕ}
use Rattle.bfd_session.specs.declared.event.SessionConfig.TheVariants.{PointToPoint}
use Rattle.bfd_pair.specs.Inside.{Pairing}
use Rattle.bfd_pair.specs.declared.schedule.playing.Tally.{Tally}
use Rattle.bfd_pair.specs.Schedule.{left, right, draw, schedule}
use Rattle.bfd_pair.specs.Line.{given_in, rises_in, total_of}

-- the two of a seed after so many events of its schedule, with the last draw and the sums
pub record IsPlayed (seed e : ℕ) (p : Pairing) (t : Tally) : Type 0 where
  pub pair : p ≡ record { left = PointToPoint (left seed); right = PointToPoint (right seed); past = schedule seed e }
  pub draw : t.draw ≡ draw seed e
  pub given : t.given ≡ total_of given_in seed (schedule seed e)
  pub rises : t.rises ≡ total_of rises_in seed (schedule seed e)
  pub few_given : t.given ≤ e
  pub few_rises : t.rises ≤ 10 * e
