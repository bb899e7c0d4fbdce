use Rattle.bfd_demux.proofs.Common.{◌<◌, arith, length, get_or_read}
use Rattle.bfd_demux.proofs.Ascending.{lower_up_to, higher_from, place_found}
use Rattle.bfd_demux.proofs.table.place_near.Goals as goal

pub search-requires-clause-below : goal.search-requires-clause-below
search-requires-clause-below g c =
    let within : c.min-middle.result < length c.args.entries.now = omega (arith, c.in-Some.ensures, c.min-middle.ensures) in
    lower_up_to g.met.K.Ord.total c.args.entries.now c.requires.ascending within (get_or_read _ _ _ within c.index-entries-middle.is)
    (cc (c.in-Less.is))

pub search-requires-in-Greater-clause-above : goal.search-requires-in-Greater-clause-above
search-requires-in-Greater-clause-above g c =
    let within : c.min-middle.result < length c.args.entries.now = omega (arith, c.in-Some.ensures, c.min-middle.ensures) in
    higher_from g.met.K.Ord.total c.args.entries.now c.requires.ascending within (get_or_read _ _ _ within c.index-entries-middle.is)
    (cc (c.in-Greater.is))

pub returns-in-Equal-clause-found : goal.returns-in-Equal-clause-found
returns-in-Equal-clause-found g c =
    let within : c.min-middle.result < length c.args.entries.now = omega (arith, c.in-Some.ensures, c.min-middle.ensures) in
    place_found g.met.K.Ord.total c.args.entries.now c.requires.ascending within (get_or_read _ _ _ within c.index-entries-middle.is)
    (cc (c.in-Equal.is))
