-- The versions, the words that begin a line, and where they may stand.
use Rattle.std.specs.Prelude.{ℕ, Bool, true, false, not, ◌&&◌, List, Option, Some, None, codes, if◌then◌else◌}
use Rattle.std.specs.Str.{bytes_eq}
use Rattle.bfd_script.specs.declared.line.words.Word.{Word}
use Rattle.bfd_script.specs.declared.line.words.Word.TheVariants.{Bfd, P2p, Auth, Key, Sbfd, Reflector, Head, Tail, Run, Rx, Tick, Cmd}
use Rattle.bfd_script.specs.declared.line.words.Word.TheVariants.{Show, End}
use Rattle.bfd_script.specs.declared.line.words.Place.{Place}
use Rattle.bfd_script.specs.declared.line.words.Version.{Version as Edition}
use Rattle.bfd_script.specs.declared.line.words.Version.TheVariants.{One, Two}
use Rattle.bfd_script.specs.declared.line.words.Place.TheVariants.{Version, Table, Events}

-- version 2
abbrev pub is_second : Edition → Bool
is_second One = false
is_second Two = true

-- the word that a field spells; `key` is one of version 2 alone
abbrev pub word_of : Edition → List ℕ → Option Word
word_of version field =
    if bytes_eq field (codes "bfd") then Some Bfd
    else if bytes_eq field (codes "p2p") then Some P2p
    else if bytes_eq field (codes "auth") then Some Auth
    else if bytes_eq field (codes "sbfd") then Some Sbfd
    else if bytes_eq field (codes "reflector") then Some Reflector
    else if bytes_eq field (codes "head") then Some Head
    else if bytes_eq field (codes "tail") then Some Tail
    else if bytes_eq field (codes "run") then Some Run
    else if bytes_eq field (codes "rx") then Some Rx
    else if bytes_eq field (codes "tick") then Some Tick
    else if bytes_eq field (codes "cmd") then Some Cmd
    else if bytes_eq field (codes "show") then Some Show
    else if bytes_eq field (codes "end") then Some End
    else if bytes_eq field (codes "key") && is_second version then Some Key
    else None

-- the place of each word: the version first, then the table and `run`, then events and `end`; a live script has no `rx` or `tick`
abbrev pub stands : Place → Bool → Word → Bool
stands Version live Bfd = true
stands Table live P2p = true
stands Table live Auth = true
stands Table live Key = true
stands Table live Sbfd = true
stands Table live Reflector = true
stands Table live Head = true
stands Table live Tail = true
stands Table live Run = true
stands Events live Rx = not live
stands Events live Tick = not live
stands Events live Cmd = true
stands Events live Show = true
stands Events live End = true
stands place live word = false
