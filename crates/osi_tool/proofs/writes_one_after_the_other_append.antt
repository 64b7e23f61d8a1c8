-- How much of a text a writer has taken, and what is left; calls that fail change neither what a reader has left nor
-- what a writer holds.
use Rattle.std.proofs.Common.{◌≡◌, ◌∙◌, ℕ, ◌+◌, Option, Some, None, List, [], ◌++◌, take, drop, refl, sym, ap}
use Rattle.std.proofs.Math.Seq.{take-add}
use Rattle.std.proofs.lemmas.List.{append_assoc, append-nil, drop-drop, take-append-drop}
use Rattle.std.specs.Io.KnownBytes.{Appends, Consumes, Keeps}
use Rattle.osi_tool.specs.Show.{BeginsToAppend}

pub keeps_same : (a : Option (List ℕ)) → Keeps a a
keeps_same None = tt
keeps_same (Some x) = refl

pub keeps_both : (a b c : Option (List ℕ)) → Keeps a b → Keeps b c → Keeps a c
keeps_both None b c h k = tt
keeps_both (Some x) None c h k = absurd h
keeps_both (Some x) (Some y) None h k = absurd k
keeps_both (Some x) (Some y) (Some z) h k = k ∙ h

pub keeps_consumes : (a b c : Option (List ℕ)) (xs : List ℕ) → Keeps a b → Consumes b c xs → Consumes a c xs
keeps_consumes None b c xs h k = tt
keeps_consumes (Some x) None c xs h k = absurd h
keeps_consumes (Some x) (Some y) None xs h k = absurd k
keeps_consumes (Some x) (Some y) (Some z) xs h k = sym h ∙ k

pub keeps_appends : (a b c : Option (List ℕ)) (xs : List ℕ) → Keeps a b → Appends b c xs → Appends a c xs
keeps_appends None b c xs h k = tt
keeps_appends (Some x) None c xs h k = absurd h
keeps_appends (Some x) (Some y) None xs h k = absurd k
keeps_appends (Some x) (Some y) (Some z) xs h k = k ∙ ap (λ t. t ++ xs) h

appends_keeps : (a b c : Option (List ℕ)) (xs : List ℕ) → Appends a b xs → Keeps b c → Appends a c xs
appends_keeps None b c xs h k = tt
appends_keeps (Some x) None c xs h k = absurd h
appends_keeps (Some x) (Some y) None xs h k = absurd k
appends_keeps (Some x) (Some y) (Some z) xs h k = k ∙ h

pub appends_both : (a b c : Option (List ℕ)) (xs ys : List ℕ) → Appends a b xs → Appends b c ys → Appends a c (xs ++ ys)
appends_both None b c xs ys h k = tt
appends_both (Some x) None c xs ys h k = absurd h
appends_both (Some x) (Some y) None xs ys h k = absurd k
appends_both (Some x) (Some y) (Some z) xs ys h k = k ∙ ap (λ t. t ++ ys) h ∙ append_assoc x xs ys

pub appends_none : (a : Option (List ℕ)) → Appends a a []
appends_none None = tt
appends_none (Some x) = sym (append-nil x)

pub same_appends : (a b : Option (List ℕ)) (xs ys : List ℕ) → xs ≡ ys → Appends a b xs → Appends a b ys
same_appends None b xs ys e h = tt
same_appends (Some x) None xs ys e h = absurd h
same_appends (Some x) (Some y) xs ys e h = h ∙ ap (λ t. x ++ t) e

-- this many octets of a text were written, and these are left
pub record IsWriting (old now : Option (List ℕ)) (text rest : List ℕ) : Type 0 where
  pub count : ℕ
  pub appended : Appends old now (take count text)
  pub left : rest ≡ drop count text

pub writing_none : (old : Option (List ℕ)) (text : List ℕ) → IsWriting old old text text
writing_none old text = record { count = 0; appended = appends_none old; left = refl }

pub writing_more : (old now new : Option (List ℕ)) (text rest : List ℕ) (count : ℕ) → IsWriting old now text rest →
    Appends now new (take count rest) →
    IsWriting old new text (drop count rest)
writing_more old now new text rest count h more = record {
  count = h.count + count;
  appended = same_appends old new (take h.count text ++ take count rest) (take (h.count + count) text)
      (ap (λ t. take h.count text ++ take count t) h.left ∙ sym (take-add h.count count text))
      (appends_both old now new (take h.count text) (take count rest) h.appended more);
  left = ap (drop count) h.left ∙ drop-drop count h.count text;
}

-- what was written is a prefix
pub writing_begun : (old now new : Option (List ℕ)) (text rest : List ℕ) → IsWriting old now text rest → Keeps now new →
    BeginsToAppend old new text
writing_begun old now new text rest h kept = (h.count, appends_keeps old now new (take h.count text) h.appended kept)

-- all of it was written
pub writing_done : (old now new : Option (List ℕ)) (text rest : List ℕ) → IsWriting old now text rest → rest ≡ [] → Keeps now new →
    Appends old new text
writing_done old now new text rest h none kept =
    same_appends old new (take h.count text) text
    (sym (append-nil (take h.count text)) ∙ ap (λ t. take h.count text ++ t) (sym none ∙ h.left) ∙ take-append-drop h.count text)
    (appends_keeps old now new (take h.count text) h.appended kept)
