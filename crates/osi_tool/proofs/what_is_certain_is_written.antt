-- What has become certain of a text is written while it is read: for the functions of `live`.
use Rattle.std.proofs.Common.{◌≡◌, ◌∙◌, ◌⊎◌, inl, inr, ℕ, ◌+◌, Option, Some, None, List, [], ◌∷◌, ◌++◌, zero, suc, length, take, refl, sym}
use Rattle.std.proofs.Common.{ap, arith}
use Rattle.std.proofs.lemmas.List.{append_assoc}
use Rattle.std.specs.Prelude.{IfErr, IfSome, OnErr, Result, Ok, Err}
use Rattle.std.specs.Io.KnownBytes.{Appends, Keeps}
use Rattle.osi_report.specs.Disputes.{IsJudgement}
use Rattle.osi_report.specs.Hearing.{Fails, IsHeard}
use Rattle.osi_listing.specs.Capture.{IsNoCapture}
use Rattle.osi_listing.specs.declared.capture.CaptureFault.TheVariants as fault
use Rattle.osi_report.specs.News.{AreToldOf, IsTold, joined}
use Rattle.osi_report.specs.declared.hearing.Hearing.{Hearing}
use Rattle.osi_report.proofs.what_is_told_is_of_the_report.{joined_both}
use Rattle.osi_tool.specs.declared.faults.ToolFault.{ToolFault}
use Rattle.osi_tool.specs.declared.faults.ToolFault.TheVariants as tool
use Rattle.osi_tool.specs.Live.{Announces, AnnouncesPart, BeginsLive, FindsLive, FindsLivePart}
use Rattle.osi_tool.specs.Show.{BeginsToAppend}
use Rattle.osi_tool.proofs.what_is_read_is_heard.{HasHeard}
use Rattle.osi_tool.proofs.writes_one_after_the_other_append.{appends_both, appends_none, same_appends}

-- ---- one after the other

both_told : (text : List ℕ) (ls ks : List (List ℕ)) → AreToldOf text ls → AreToldOf text ks → AreToldOf text (ls ++ ks)
both_told text [] ks h k = k
both_told text (l ∷ ls) ks h k = (h.0, both_told text ls ks h.1 k)

told_both : (text some more : List ℕ) → IsTold text some → IsTold text more → IsTold text (some ++ more)
told_both text some more h k = record {
  lines = h.lines ++ k.lines;
  are = both_told text h.lines k.lines h.are k.are;
  is = (λ i. h.is i ++ k.is i) ∙ sym (joined_both h.lines k.lines);
}

pub none_told : (text : List ℕ) → IsTold text []
none_told text = record { lines = []; are = tt; is = refl }

pub nothing_announced : (text : List ℕ) (c : Option (List ℕ)) → Announces text c c
nothing_announced text c = record { told = []; is_told = none_told text; written = appends_none c }

pub announced : (text told : List ℕ) (old new : Option (List ℕ)) → IsTold text told → Appends old new told → Announces text old new
announced text told old new h w = record { told = told; is_told = h; written = w }

pub announced_part : (text told : List ℕ) (old new : Option (List ℕ)) → IsTold text told → BeginsToAppend old new told
    → AnnouncesPart text old new
announced_part text told old new h b = record { told = told; is_told = h; begun = b }

pub nothing_in_part : (text : List ℕ) (c : Option (List ℕ)) → AnnouncesPart text c c
nothing_in_part text c = record { told = []; is_told = none_told text; begun = (0, appends_none c) }

pub if_write_fails : {A : Type 0} (r : Result A ToolFault) (P : Type 0) → P → IfErr r (λ f. f ≡ tool.Write → P)
if_write_fails (Ok x) P p = tt
if_write_fails (Err f) P p = λ e. p

pub on_failure : (r : Result (Unit {0}) ToolFault) (P : Type 0) → P → OnErr r P
on_failure (Ok x) P p = tt
on_failure (Err f) P p = p

announced_both : (text : List ℕ) (old mid new : Option (List ℕ)) → Announces text old mid → Announces text mid new
    → Announces text old new
announced_both text old mid new h k = record {
  told = h.told ++ k.told;
  is_told = told_both text h.told k.told h.is_told k.is_told;
  written = appends_both old mid new h.told k.told h.written k.written;
}

-- ---- a prefix

none_before : (n : ℕ) → n ≡ 0 + n
none_before n = omega arith

one_before : (m n : ℕ) → suc (m + n) ≡ suc m + n
one_before m n = omega arith

take_more : (xs ys : List ℕ) (n : ℕ) → xs ++ take n ys ≡ take (length xs + n) (xs ++ ys)
take_more [] ys n = ap (λ (k : ℕ). take k ys) (none_before n)
take_more (x ∷ xs) ys n =
    ap (λ (t : List ℕ). x ∷ t) (take_more xs ys n) ∙ ap (λ (k : ℕ). take k (x ∷ xs ++ ys)) (one_before (length xs) n)

begun_after : (old mid new : Option (List ℕ)) (xs ys : List ℕ) → Appends old mid xs → BeginsToAppend mid new ys
    → BeginsToAppend old new (xs ++ ys)
begun_after old mid new xs ys h (n, k) = (
  length xs + n,
  same_appends old new (xs ++ take n ys) (take (length xs + n) (xs ++ ys)) (take_more xs ys n)
      (appends_both old mid new xs (take n ys) h k),
)

part_after : (text : List ℕ) (old mid new : Option (List ℕ)) → Announces text old mid → AnnouncesPart text mid new
    → AnnouncesPart text old new
part_after text old mid new h k = record {
  told = h.told ++ k.told;
  is_told = told_both text h.told k.told h.is_told k.is_told;
  begun = begun_after old mid new h.told k.told h.written k.begun;
}

-- ---- while a text is read

-- if a hearing, as it was at first, is to hear all that the reader gives, only what was certain has been written
abbrev pub HasTold : (first : Hearing) → (all old new : Option (List ℕ)) → Type 0
HasTold first None old new = Unit {0}
HasTold first (Some whole) old new = IsHeard first whole whole → Announces whole old new

-- a hearing that goes on has heard the same
pub heard_on : (first old new : Hearing) (all now : Option (List ℕ)) → HasHeard first old all now
    → ((whole rest : List ℕ) → IsHeard old whole rest → IsHeard new whole rest) → HasHeard first new all now
heard_on first old new None now h f = tt
heard_on first old new (Some whole) None h f = absurd h
heard_on first old new (Some whole) (Some rest) h f = λ k. f whole rest (h k)

-- a text that can't be read is none
pub bad_so_far : (first h : Hearing) (all now : Option (List ℕ)) → HasHeard first h all now
    → ((whole rest : List ℕ) → IsHeard h whole rest → IsNoCapture whole)
    → IfSome all (λ text. IsHeard first text text → IsNoCapture text)
bad_so_far first h None now heard f = tt
bad_so_far first h (Some whole) None heard f = absurd heard
bad_so_far first h (Some whole) (Some rest) heard f = λ k. f whole rest (heard k)

-- a hearing that has heard a part of a text has not failed
pub not_failed : (h : Hearing) (whole rest : List ℕ) → (fault.BadHex ≡ fault.OutOfMemory) ⊎ Fails h fault.BadHex
    → IsHeard h whole rest → IsNoCapture whole
not_failed h whole rest (inl e) k = absurd (grind (arith, e))
not_failed h whole rest (inr f) k = absurd (grind (arith, f, k.sound))

pub none_so_far : (first : Hearing) (all c : Option (List ℕ)) → HasTold first all c c
none_so_far first None c = tt
none_so_far first (Some whole) c = λ h. nothing_announced whole c

pub told_more : (first h : Hearing) (all now old mid new : Option (List ℕ)) → HasHeard first h all now → HasTold first all old mid
    → ((whole rest : List ℕ) → IsHeard h whole rest → Announces whole mid new) → HasTold first all old new
told_more first h None now old mid new heard t f = tt
told_more first h (Some whole) None old mid new heard t f = absurd heard
told_more first h (Some whole) (Some rest) old mid new heard t f = λ k. announced_both whole old mid new (t k) (f whole rest (heard k))

pub told_all : (first : Hearing) (all old new : Option (List ℕ)) → HasTold first all old new
    → IfSome all (λ text. IsHeard first text text → Announces text old new)
told_all first None old new h = tt
told_all first (Some whole) old new h = h

abbrev pub PartOf : (first : Hearing) → (all old new : Option (List ℕ)) → Type 0
PartOf first all old new = IfSome all (λ text. IsHeard first text text → AnnouncesPart text old new)

pub part_so_far : (first h : Hearing) (all now old mid new : Option (List ℕ)) → HasHeard first h all now → HasTold first all old mid
    → ((whole rest : List ℕ) → IsHeard h whole rest → AnnouncesPart whole mid new) → PartOf first all old new
part_so_far first h None now old mid new heard t f = tt
part_so_far first h (Some whole) None old mid new heard t f = absurd heard
part_so_far first h (Some whole) (Some rest) old mid new heard t f = λ k. part_after whole old mid new (t k) (f whole rest (heard k))

-- ---- at the end

pub found_live : (all old mid new : Option (List ℕ)) (lines : List ℕ) (status : ℕ) → IfSome all (λ text. Announces text old mid)
    → IfSome all (λ text. IsJudgement text lines status) → Appends mid new lines → IfSome all (λ text. FindsLive text old new status)
found_live None old mid new lines status h j w = tt
found_live (Some text) old mid new lines status h j w = record {
  told = h.told;
  lines = lines;
  is_told = h.is_told;
  judged = j;
  written = appends_both old mid new h.told lines h.written w;
}

pub found_in_part : (all old mid new : Option (List ℕ)) (lines : List ℕ) (status : ℕ) → IfSome all (λ text. Announces text old mid)
    → IfSome all (λ text. IsJudgement text lines status) → BeginsToAppend mid new lines → IfSome all (λ text. BeginsLive text old new)
found_in_part None old mid new lines status h j w = tt
found_in_part (Some text) old mid new lines status h j w = inr (record {
  told = h.told;
  lines = lines;
  status = status;
  is_told = h.is_told;
  judged = j;
  begun = begun_after old mid new h.told lines h.written w;
})
