-- The names of the tests, as reports print them.
use Rattle.std.specs.Prelude.{ℕ, List, codes}
use Rattle.bfd_packet.specs.declared.discard.Test.{Test}
use Rattle.bfd_packet.specs.declared.discard.Test.TheVariants.{Short, Version, LengthMin, LengthOver, DetectMult, Multipoint, MyDiscr}
use Rattle.bfd_packet.specs.declared.discard.Test.TheVariants.{YourUnknown, YourZeroState, NoSession, Ttl, AuthUnexpected, AuthMissing}
use Rattle.bfd_packet.specs.declared.discard.Test.TheVariants.{AuthType, AuthKey, AuthLen, AuthSeq, AuthDigest, AdminDown, NotDemand}
use Rattle.bfd_packet.specs.declared.discard.Test.TheVariants.{MultipointYour, NoTail, EchoForm, EchoStale}

-- a test's name, as it is written in the enum
abbrev pub name_of : Test → List ℕ
name_of Short = codes "Short"
name_of Version = codes "Version"
name_of LengthMin = codes "LengthMin"
name_of LengthOver = codes "LengthOver"
name_of DetectMult = codes "DetectMult"
name_of Multipoint = codes "Multipoint"
name_of MyDiscr = codes "MyDiscr"
name_of YourUnknown = codes "YourUnknown"
name_of YourZeroState = codes "YourZeroState"
name_of NoSession = codes "NoSession"
name_of Ttl = codes "Ttl"
name_of AuthUnexpected = codes "AuthUnexpected"
name_of AuthMissing = codes "AuthMissing"
name_of AuthType = codes "AuthType"
name_of AuthKey = codes "AuthKey"
name_of AuthLen = codes "AuthLen"
name_of AuthSeq = codes "AuthSeq"
name_of AuthDigest = codes "AuthDigest"
name_of AdminDown = codes "AdminDown"
name_of NotDemand = codes "NotDemand"
name_of MultipointYour = codes "MultipointYour"
name_of NoTail = codes "NoTail"
name_of EchoForm = codes "EchoForm"
name_of EchoStale = codes "EchoStale"
