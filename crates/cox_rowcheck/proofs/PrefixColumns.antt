-- The columns of the prefixes of a word: one more, and those of another word that begins alike.
use Rattle.std.proofs.Common.{◌≡◌, ℕ, ◌+◌, ◌<◌, ◌≤◌, List, [], ◌∷◌, ◌++◌, length, take, slice_index_or, subst, ap, sym, ◌∙◌, arith, ⊎_elim}
use Rattle.std.proofs.lemmas.Bool.{cases_lt}
use Rattle.std.proofs.lemmas.List.{length-take, take-take, get_or-take, get_or_append_left, length_push}
use Rattle.std.proofs.Math.Seq.{get_or-append_seam}
use Rattle.cox_base.specs.IntegerMatrix.{IntegerMatrix}
use Rattle.cox_base.specs.Admissible.{IsAdmissible}
use Rattle.cox_base.specs.ShortLex.{normal_form}
use Rattle.cox_context.specs.Closed.{IsClosed}
use Rattle.cox_context.specs.Numbers.{word_at}
use Rattle.cox_context.proofs.NumbersOfWords.{word-longer}
use Rattle.cox_rowcheck.specs.declared.column.Column.{Column}
use Rattle.cox_rowcheck.specs.Prefixes.{IsColumnOf, ArePrefixes}

module _ (A : IntegerMatrix) (members : List (List ℕ)) where
  -- the one of the first d letters
  pub prefix-at : (word : List ℕ) (stack : List Column) (d : ℕ) (column : Column) → ArePrefixes A members word stack → d < length stack
      → column ≡ slice_index_or stack d column → IsColumnOf A members (take d word) column
  prefix-at word stack d column are l is =
      subst (λ (other : Column). IsColumnOf A members (take d word) other) (sym is) (are.each d column l)

  -- the one of no letters, at the start
  pub prefixes-none : (column : Column) → IsColumnOf A members [] column → ArePrefixes A members [] (column ∷ [])
  prefixes-none column is = record {
    some = omega arith;
    within = omega arith;
    each = λ d other below. let start : d ≡ 0 = omega (arith, below) in rw start is;
  }

  -- one letter more
  pub prefixes-more : (word : List ℕ) (stack : List Column) (column : Column) (n : ℕ) → ArePrefixes A members word stack → length stack ≡ n
      → n ≤ length word → IsColumnOf A members (take n word) column → ArePrefixes A members word (stack ++ column ∷ [])
  prefixes-more word stack column n are size low is = record {
    some = omega (arith, length_push stack column);
    within = omega (arith, length_push stack column, size, low);
    each = λ d other l. ⊎_elim
        (λ (before : d < length stack). rw (get_or_append_left stack (column ∷ []) other d before) (are.each d other before))
        (λ (behind : length stack ≤ d). last d other (omega (arith, behind, l, length_push stack column)))
        (cases_lt d (length stack));
  }
    where
      last : (d : ℕ) (other : Column) → d ≡ length stack
          → IsColumnOf A members (take d word) (slice_index_or (stack ++ column ∷ []) d other)
      last d other e =
          let here : slice_index_or (stack ++ column ∷ []) d other ≡ column
          = ap (λ (j : ℕ). slice_index_or (stack ++ column ∷ []) j other) e ∙ get_or-append_seam stack column [] other
          in let letters : d ≡ n = e ∙ size
          in rw (here, letters) is

  -- what two words have in common
  pub prefixes-kept : (last word : List ℕ) (stack : List Column) (n : ℕ) → ArePrefixes A members last stack → n ≤ length word
      → take n last ≡ take n word → ArePrefixes A members word (take (n + 1) stack)
  prefixes-kept last word stack n are low same = record {
    some = omega (arith, length-take (n + 1) stack, are.some);
    within = omega (arith, length-take (n + 1) stack, low);
    each = λ d other l.
        let up_to : d < n + 1 = omega (arith, l, length-take (n + 1) stack)
        in let inside : d < length stack = omega (arith, l, length-take (n + 1) stack)
        in let alike : take d last ≡ take d word
        = sym (take-take d n last (omega (arith, up_to))) ∙ ap (take d) same ∙ take-take d n word (omega (arith, up_to))
        in rw (get_or-take (n + 1) stack d other up_to, ← alike) (are.each d other inside);
  }

  -- the member that the next letter leads to, and its column
  pub prefix-next : IsAdmissible A → IsClosed A members → (word : List ℕ) (i at : ℕ) → i < length word
      → word_at members at ≡ normal_form A (take i word) → (next : Column)
      → IsColumnOf A members (word_at members at ++ slice_index_or word i 0 ∷ []) next → IsColumnOf A members (take (i + 1) word) next
  prefix-next g closed word i at i_in e next is = record {
    inside = is.inside;
    named = word-longer A g members closed word i at next.number i_in e is.named;
    entries = is.entries;
  }
