-- Tables of options: no two options of a table have one name, and none has that of an argument which clap adds.
use Rattle.std.proofs.Common.{◌≡◌, ◌≢◌, ◌∙◌, ◌<◌, ℕ, Bool, true, false, not, List, [], ◌∷◌, All, map, length, inl, inr, refl, sym, ap}
use Rattle.std.proofs.Common.{arith, bytes_eq, codes, get_or}
use Rattle.std.specs.Cmp.Lexicographic.{nat_list_eq_equiv}
use Rattle.std.specs.List.{IsDistinct, list_any}
use Rattle.std.proofs.lemmas.Bool.{cases_order}
use Rattle.std.proofs.lemmas.List.{get_or-map, length-map}
use Rattle.std.proofs.lemmas.List.Sums.{AllPass-from_list_all}
use Rattle.std.proofs.lemmas.Map.Made.{AllPairs-from_IsDistinct, IsDistinct-from_count}
use Rattle.std.proofs.lemmas.Slice.Eq.{bytes_eq-Decides}
use Rattle.clap.specs.ValueTests.{is_unsigned_in}
use Rattle.clap.specs.Walk.{Text}
use Rattle.cox_options.specs.Command.{NumberOption, number_options}

abbrev pub names : List NumberOption → List Text
names options = map (λ option. option.name) options

-- the name is neither empty nor that of an argument which clap adds
abbrev pub is_own : Text → Bool
is_own name = not (list_any (bytes_eq name) ([] ∷ codes "help" ∷ codes "version" ∷ []))

-- what the options of a table are: told apart by their names, and each with a default of its range
pub record IsTable (options : List NumberOption) : Type 0 where
  pub distinct : IsDistinct bytes_eq (names options)
  pub own : All (λ option. is_own option.name ≡ true) options
  pub defaults : All (λ option. is_unsigned_in 1 option.most option.default ≡ true) options

pub IsTable-options : IsTable number_options
IsTable-options = record {
  distinct = IsDistinct-from_count nat_list_eq_equiv (names number_options) refl;
  own = AllPass-from_list_all (λ option. is_own option.name) number_options refl;
  defaults = AllPass-from_list_all (λ option. is_unsigned_in 1 option.most option.default) number_options refl;
}

pub own_name : (name : Text) → is_own name ≡ true → (name ≢ []) × (name ≢ codes "help") × (name ≢ codes "version")
own_name name own = (λ e. other [] e refl, λ e. other (codes "help") e refl, λ e. other (codes "version") e refl)
  where
    other : (taken : Text) → name ≡ taken → is_own taken ≡ false → ⊥
    other taken e none =
        let bad : true ≡ false = sym own ∙ ap is_own e ∙ none in
        cc

module _ (options : List NumberOption) (table : IsTable options) where
  -- one name stands at one place
  pub one_place : (i j : ℕ) (c d : NumberOption) → i < length options → j < length options
      → (get_or options i c).name ≡ (get_or options j d).name → i ≡ j
  one_place i j c d low high same = elim (cases_order i j) [
    | inl e ↦ e
    | inr (inl lt) ↦ absurd (apart i j c d lt high same)
    | inr (inr lt) ↦ absurd (apart j i d c lt low (sym same))
  ]
    where
      apart : (i j : ℕ) (c d : NumberOption) → i < j → j < length options → (get_or options i c).name ≡ (get_or options j d).name → ⊥
      apart i j c d lt high same =
          let size = length-map options (λ (option : NumberOption). option.name) in
          let other = AllPairs-from_IsDistinct bytes_eq-Decides (names options) table.distinct i j [] lt (omega arith) in
          other (get_or-map (λ option. option.name) options i c [] (omega arith) ∙ same
          ∙ sym (get_or-map (λ option. option.name) options j d [] high))
