-- How the sessions that are kept of a side hang together: each comes from one that was kept before it, back to the one that began.
use Rattle.std.specs.Prelude.{◌≡◌, ◌<◌, ◌≤◌, ◌∷◌, ℕ, false, List, [], length, map, get_or, Option, None}
use Rattle.osi_message.specs.Words.{Words}
use Rattle.osi_session.specs.Standing.{Seen}
use Rattle.osi_side.specs.declared.findings.Finding.TheVariants as found
use Rattle.osi_side.specs.declared.members.Member.{Member}
use Rattle.osi_side.specs.Explaining.{Remark}
use Rattle.osi_side.specs.Judging.{Observed, is_empty}
use Rattle.osi_side.specs.Kept.{after_word, member}
use Rattle.osi_side.specs.Onward.{IsAmong}
use Rattle.osi_side.specs.Outlines.{AreAlike, outlines}
use Rattle.osi_side.specs.Sides.{observed}
use Rattle.osi_witness.specs.declared.places.Stop.{Stop}
use Rattle.osi_witness.specs.declared.streams.Kept.{Kept}
use Rattle.osi_witness.specs.declared.streams.Stream.{Stream}
use Rattle.osi_witness.specs.Found.{ComesFrom}
use Rattle.osi_witness.specs.Streams.{tsdus_of}
use Rattle.osi_witness.specs.Trails.{remark_of}

-- the sessions that are kept after the last of these units; before the first they are those with which the side begins
abbrev pub last_kept : List Member → List Kept → List Member
last_kept members [] = members
last_kept members (k ∷ ks) = last_kept k.members.items ks

-- none of them has taken more TSDUs than these
abbrev pub AllTook : ℕ → List Member → Type 0
AllTook before members = (x : Member) → IsAmong x members → x.taken ≤ before

-- these are the sessions that the judge keeps after each word of a TSDU
abbrev pub AreAfter : (heard : List (List ℕ)) → (octets before : ℕ) → List Member → Words → List Kept → Type 0
AreAfter heard octets before members [] [] = Unit {0}
AreAfter heard octets before members (w ∷ words) (k ∷ ks) =
    (k.members.items ≡ after_word heard octets before members w) × AreAfter heard octets before k.members.items words ks
AreAfter heard octets before members _ _ = ⊥

-- each session that is kept after a unit comes from one that was kept before it, and took only what had passed before the unit
abbrev pub AllCome : (us : List (List ℕ)) → Remark → (before after : List Member) → Type 0
AllCome us m before after = (x : Member) → IsAmong x after → ComesFrom us m before x × (x.taken ≤ m.before)

-- so it is with all units of a side
abbrev pub AreLinked : (us : List (List ℕ)) → List Member → List Remark → List Kept → Type 0
AreLinked us members [] [] = Unit {0}
AreLinked us members (m ∷ ms) (k ∷ ks) = AllCome us m members k.members.items × AreLinked us k.members.items ms ks
AreLinked us members _ _ = ⊥

-- a session takes the TSDUs of the other side as it takes those that the judge heard; more of them may follow
abbrev pub Passed : (heard us : List (List ℕ)) → Type 0
Passed heard us = (i : ℕ) → i < length heard → AreAlike (get_or heard i []) (get_or us i [])

-- The units of a side lead back to the session that begins in this state. One at least is kept after the last of them. If there is no
-- limit, they are those that the judge keeps; and there is none as long as the judge says that the side keeps the protocol.
pub record LeadsBack (begin : Seen) (members : List Member) (ms : List Remark) (ks : List Kept) (limit : Option Stop) (before : ℕ)
    (side : Observed) : Type 0 where
  pub first : members ≡ member 0 begin ∷ []
  pub linked : (us : List (List ℕ)) → Passed side.heard us → AreLinked us members ms ks
  pub some : is_empty (last_kept members ks) ≡ false
  pub took : AllTook before (last_kept members ks)
  pub last : limit ≡ None → last_kept members ks ≡ side.members
  pub unlimited : side.finding ≡ found.Kept → limit ≡ None

abbrev pub Leads : (begin : Seen) → Stream → Type 0
Leads begin s =
    LeadsBack begin s.begin.items (map (remark_of (tsdus_of s)) s.kept.items) s.kept.items s.limit s.before (observed s.side)

-- the judge of a side has heard what the other side sent
abbrev pub HasHeard : (own other : Stream) → Type 0
HasHeard own other = (observed own.side).heard ≡ outlines (tsdus_of other)

-- a side whose session begins in this state, and the other side
abbrev pub IsFollowed : (own other : Stream) → Seen → Type 0
IsFollowed own other begin = Leads begin own × HasHeard own other
