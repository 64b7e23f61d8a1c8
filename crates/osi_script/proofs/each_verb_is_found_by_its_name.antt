-- Each verb is the first of all that its name names.
use Rattle.std.proofs.Common.{◌≡◌, Some, refl}
use Rattle.osi_script.specs.declared.verbs.Verb.{Verb}
use Rattle.osi_script.specs.declared.verbs.Verb.TheVariants.{Accept, Refuse, Data, Give, Please, Minor, MinorConfirm, Major, MajorConfirm}
use Rattle.osi_script.specs.declared.verbs.Verb.TheVariants.{Restart, RestartConfirm, Release, ReleaseAccept, ReleaseRefuse, Abort}
use Rattle.osi_script.specs.Names.{verb_name}
use Rattle.osi_script.specs.Words.{verb_of}

pub verb_read : (v : Verb) → verb_of (verb_name v) ≡ Some v
unfolding verb_name verb_of
verb_read Accept = refl
verb_read Refuse = refl
verb_read Data = refl
verb_read Give = refl
verb_read Please = refl
verb_read Minor = refl
verb_read MinorConfirm = refl
verb_read Major = refl
verb_read MajorConfirm = refl
verb_read Restart = refl
verb_read RestartConfirm = refl
verb_read Release = refl
verb_read ReleaseAccept = refl
verb_read ReleaseRefuse = refl
verb_read Abort = refl
