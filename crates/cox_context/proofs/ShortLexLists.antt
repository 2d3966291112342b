-- Lists in ShortLex order: one list for each property, what a test keeps of it, and how many words it has.
use Rattle.std.proofs.Common.{◌≡◌, ℕ, zero, suc, ◌-◌, ◌≤◌, ◌<◌, Bool, true, false, List, [], ◌∷◌, length, filter}
use Rattle.std.proofs.Common.{Contains, ◌↔◌, Less, refl, sym, ⊎_elim, arith}
use Rattle.std.proofs.lemmas.Bool.{cases_lt, cases_order}
use Rattle.std.proofs.lemmas.List.{ext_get_or, get_or_default}
use Rattle.std.proofs.lemmas.List.Elements.{All-contains, All-filter, All-contains_itself, All-from_get_or, filter_passes}
use Rattle.std.proofs.lemmas.List.Kept.{AllPairs-filter}
use Rattle.cox_base.specs.ShortLex.{shortlex_cmp}
use Rattle.cox_reflect.proofs.Members.{In, here, there}
use Rattle.cox_reflect.proofs.Listing.{contains-in, in-contains}
use Rattle.cox_reflect.proofs.ShortLexFirst.{IsBefore, IsBefore-asym, IsBefore-irrefl}
use Rattle.cox_base.specs.SortedList.{IsRising, IsListOf, HasMoreThan}
use Rattle.cox_context.specs.Numbers.{word_at}
use Rattle.cox_context.specs.Refusal.{IsOver}
use Rattle.cox_context.proofs.PlacedWords.{IsPlaced, contains-placed, contains-at, rising-before}

-- ---- places

-- a word that comes before another stands before it
pub before-less : (words : List (List ℕ)) (i j : ℕ) → IsRising words → i < length words
    → IsBefore (word_at words i) (word_at words j) → i < j
before-less words i j r l b =
    ⊎_elim (λ (e : i ≡ j). absurd (IsBefore-irrefl (rw e at b)))
    (λ side. ⊎_elim (λ (less : i < j). less) (λ (more : j < i). absurd (IsBefore-asym b (rising-before words j i r more l))) side)
    (cases_order i j)

-- a word has its place or a later one in a list with all the words
record IsLater (xs ys : List (List ℕ)) (i : ℕ) : Type 0 where
  k : ℕ
  later : i ≤ k
  within : k < length ys
  is : word_at ys k ≡ word_at xs i

module _ (xs ys : List (List ℕ)) (r : IsRising xs) (q : IsRising ys) (all : (word : List ℕ) → Contains xs word → Contains ys word) where
  placed : (i : ℕ) → i < length xs → IsPlaced ys (word_at xs i)
  placed i l = contains-placed ys (word_at xs i) (all (word_at xs i) (contains-at xs i l))

  later-place : (i : ℕ) → i < length xs → IsLater xs ys i
  later-place zero l = let p = placed zero l in record { k = p.i; later = omega arith; within = p.within; is = p.is }
  later-place (suc i) l = go (later-place i (omega (arith, l))) (placed (suc i) l)
    where
      go : IsLater xs ys i → IsPlaced ys (word_at xs (suc i)) → IsLater xs ys (suc i)
      go c p =
          let b : IsBefore (word_at ys c.k) (word_at ys p.i) = rw (c.is, p.is) (rising-before xs i (suc i) r (omega arith) l)
          in let less : c.k < p.i = before-less ys c.k p.i q c.within b
          in record { k = p.i; later = omega (arith, less, c.later); within = p.within; is = p.is }

  contained-length : length xs ≤ length ys
  contained-length =
      ⊎_elim (λ (some : 0 < length xs). let c = later-place (length xs - 1) (omega (arith, some)) in omega (arith, some, c.later, c.within))
      (λ (none : length xs ≤ 0). omega (arith, none))
      (cases_lt 0 (length xs))

-- ---- one list for each property

same-words : (xs ys : List (List ℕ)) → IsRising xs → IsRising ys → ((word : List ℕ) → Contains xs word → Contains ys word)
    → ((word : List ℕ) → Contains ys word → Contains xs word) → xs ≡ ys
same-words xs ys r q forth back =
    ext_get_or [] xs ys size (λ i l. at i l (later-place xs ys r q forth i l) (later-place ys xs q r back i (omega (arith, l, size))))
  where
    size : length xs ≡ length ys
    size = omega (arith, contained-length xs ys r q forth, contained-length ys xs q r back)

    at : (i : ℕ) → i < length xs → IsLater xs ys i → IsLater ys xs i → word_at xs i ≡ word_at ys i
    at i l c d =
        ⊎_elim
        (λ (less : i < c.k). ⊎_elim
        (λ (more : i < d.k). absurd (IsBefore-asym (rw c.is at (rising-before ys i c.k q less c.within))
        (rw d.is at (rising-before xs i d.k r more d.within))))
        (λ here. let e : d.k ≡ i = omega (arith, here, d.later) in rw e at d.is) (cases_lt i d.k))
        (λ here. let e : c.k ≡ i = omega (arith, here, c.later) in sym (rw e at c.is)) (cases_lt i c.k)

-- one list has the words with a property in ShortLex order
pub IsListOf-unique : (P : List ℕ → Type 0) (xs ys : List (List ℕ)) → IsListOf P xs → IsListOf P ys → xs ≡ ys
IsListOf-unique P xs ys a b =
    same-words xs ys a.rising b.rising (λ word c. b.whole word (a.sound word c)) (λ word c. a.whole word (b.sound word c))

-- ---- what a test keeps

In-filter : {word : List ℕ} (test : List ℕ → Bool) {words : List (List ℕ)} → In word words → test word ≡ true → In word (filter test words)
In-filter test here t = rw t here
In-filter {word} test (there {y = y} {xs = words} i) t = go (test y) refl (In-filter test i t)
  where
    go : (b : Bool) → test y ≡ b → In word (filter test words) → In word (filter test (y ∷ words))
    go true e rest = rw e (there rest)
    go false e rest = rw e rest

rising-filter : (test : List ℕ → Bool) (words : List (List ℕ)) → IsRising words → IsRising (filter test words)
rising-filter test words r i j l k =
    AllPairs-filter (λ v w. shortlex_cmp v w ≡ Less) test words
    (λ i j d l k. rw (get_or_default words i d [] (omega (arith, l, k)), get_or_default words j d [] k) (r i j l k)) i j [] l k

pub IsListOf-filter : (P Q : List ℕ → Type 0) (test : List ℕ → Bool) (xs : List (List ℕ)) → IsListOf P xs
    → ((word : List ℕ) → P word → (test word ≡ true) ↔ Q word) → ((word : List ℕ) → Q word → P word) → IsListOf Q (filter test xs)
IsListOf-filter P Q test xs a tells narrower = record {
  rising = rising-filter test xs a.rising;
  sound = λ word c. (tells word (a.sound word
      (All-contains (Contains xs) (filter test xs) word (All-filter test (Contains xs) xs (All-contains_itself xs)) c))).0
      (All-contains (λ x. test x ≡ true) (filter test xs) word (filter_passes test xs) c);
  whole = λ word p. in-contains (In-filter test (contains-in xs (a.whole word (narrower word p))) ((tells word (narrower word p)).1 p));
}

-- ---- more than so many words

pub HasMoreThan-listed : (P : List ℕ → Type 0) (limit : ℕ) (xs : List (List ℕ)) → IsListOf P xs → limit < length xs → HasMoreThan limit P
HasMoreThan-listed P limit xs a many =
    (xs, a.rising, All-from_get_or P xs [] (λ i l. a.sound (word_at xs i) (contains-at xs i l)), many)

-- a prefix of limit + 1 words ..
pub HasMoreThan-over : (P : List ℕ → Type 0) (limit : ℕ) → IsOver P limit → HasMoreThan limit P
HasMoreThan-over P limit over = (
  over.prefix,
  over.first.rising,
  All-from_get_or P over.prefix [] (λ i l. over.first.sound (word_at over.prefix i) (contains-at over.prefix i l)),
  omega (arith, over.count),
)

-- .. which a list of no more than limit words rules out
pub HasMoreThan-few : (P : List ℕ → Type 0) (limit : ℕ) (xs : List (List ℕ)) → IsListOf P xs → length xs ≤ limit → HasMoreThan limit P → ⊥
HasMoreThan-few P limit xs a few (ys, rising, all, many) =
    let size : length ys ≤ length xs = contained-length ys xs rising a.rising (λ word c. a.whole word (All-contains P ys word all c))
    in omega (arith, few, many, size)
