-- The words for sides and for calls.
use Rattle.std.specs.Prelude.{ℕ, List, [], ◌∷◌, codes}
use Rattle.osi_script.specs.declared.sides.Side.{Side}
use Rattle.osi_script.specs.declared.sides.Side.TheVariants.{Left, Right}
use Rattle.osi_script.specs.declared.verbs.Verb.{Verb}
use Rattle.osi_script.specs.declared.verbs.Verb.TheVariants as verb

abbrev pub side_name : Side → List ℕ
side_name Left = codes "left"
side_name Right = codes "right"

unfoldable pub verb_name : Verb → List ℕ
verb_name verb.Accept = codes "accept"
verb_name verb.Refuse = codes "refuse"
verb_name verb.Data = codes "data"
verb_name verb.Give = codes "give"
verb_name verb.Please = codes "please"
verb_name verb.Minor = codes "minor"
verb_name verb.MinorConfirm = codes "minorconfirm"
verb_name verb.Major = codes "major"
verb_name verb.MajorConfirm = codes "majorconfirm"
verb_name verb.Restart = codes "restart"
verb_name verb.RestartConfirm = codes "restartconfirm"
verb_name verb.Release = codes "release"
verb_name verb.ReleaseAccept = codes "releaseaccept"
verb_name verb.ReleaseRefuse = codes "releaserefuse"
verb_name verb.Abort = codes "abort"

abbrev pub all_verbs : List Verb
all_verbs =
    verb.Accept ∷ verb.Refuse ∷ verb.Data ∷ verb.Give ∷ verb.Please ∷ verb.Minor ∷ verb.MinorConfirm ∷ verb.Major
    ∷ verb.MajorConfirm ∷ verb.Restart ∷ verb.RestartConfirm ∷ verb.Release ∷ verb.ReleaseAccept ∷ verb.ReleaseRefuse
    ∷ verb.Abort ∷ []
