-- Polynomials that stand one behind another: one more.
use Rattle.std.proofs.Common.{◌≡◌, ℕ, zero, suc, ◌+◌, ◌-◌, ◌<◌, ◌≤◌, List, [], ◌∷◌, ◌++◌, length, slice_index_or, take, drop, map}
use Rattle.std.proofs.Common.{ℤ, refl, sym, ◌∙◌, ap, inl, inr, arith}
use Rattle.std.proofs.Common.{length-append, length-drop}
use Rattle.std.proofs.Math.Seq.{drop-append_seam, get_or-append_seam}
use Rattle.std.specs.List.{range_with_len}
use Rattle.std.proofs.lemmas.Bool.{cases_lt}
use Rattle.std.proofs.lemmas.List.{drop-take, drop-append-le, take-append-le, take-take, take_all, length-take, get_or_append_left}
use Rattle.std.proofs.lemmas.List.{ext_get_or}
use Rattle.std.proofs.lemmas.List.FromFn.{get_or-map-range_with_len, length-map-range_with_len, map-range_with_len_more}
use Rattle.cox_poly.specs.Polynomial.{IsStorable}
use Rattle.cox_poly.specs.PolyLists.{end_at, start_at, piece, pieces, AreStored}

-- the polynomial at a place is one of the list
pub pieces-length : (coefficients : List ℤ) (ends : List ℕ) → length (pieces coefficients ends) ≡ length ends
pieces-length coefficients ends = length-map-range_with_len (piece coefficients ends) 0 (length ends)

pub pieces-at : (coefficients : List ℤ) (ends : List ℕ) (k : ℕ) → k < length ends → slice_index_or (pieces coefficients ends) k []
    ≡ piece coefficients ends k
pieces-at coefficients ends k l = get_or-map-range_with_len (piece coefficients ends) 0 (length ends) k k [] l (omega arith)

-- lists by place
map-same : (f g : ℕ → List ℤ) (n : ℕ) → ((k : ℕ) → k < n → f k ≡ g k) → map f (range_with_len 0 n) ≡ map g (range_with_len 0 n)
map-same f g n same =
    let long = length-map-range_with_len f 0 n in
    let wide = length-map-range_with_len g 0 n in
    ext_get_or [] (map f (range_with_len 0 n)) (map g (range_with_len 0 n)) (long ∙ sym wide) (λ k l.
    let within : k < n = omega (arith, l, long) in
    get_or-map-range_with_len f 0 n k k [] within (omega arith) ∙ same k within
    ∙ sym (get_or-map-range_with_len g 0 n k k [] within (omega arith)))

-- what stands behind a place says nothing of what stands before it
take-drop-kept : (list more : List ℤ) (start end cut : ℕ) → start ≤ end → end ≤ cut → cut ≤ length list
    → take (end - start) (drop start (take cut list ++ more)) ≡ take (end - start) (drop start list)
take-drop-kept list more start end cut l m h =
    let size : length (take cut list) ≡ cut = omega (arith, length-take cut list) in
    let split : start + (cut - start) ≡ cut = omega arith in
    let inner : drop start (take cut list) ≡ take (cut - start) (drop start list)
    = ap (λ n. drop start (take n list)) (sym split) ∙ drop-take start (cut - start) list in
    let rest : length (drop start (take cut list)) ≡ cut - start = omega (arith, length-drop start (take cut list), size) in
    ap (take (end - start)) (drop-append-le start (take cut list) more (omega (arith, size)))
    ∙ take-append-le (end - start) (drop start (take cut list)) more (omega (arith, rest))
    ∙ ap (take (end - start)) inner
    ∙ take-take (end - start) (cut - start) (drop start list) (omega arith)

-- one end more leaves the others where they are
end-kept : (ends : List ℕ) (e k : ℕ) → k < length ends → end_at (ends ++ e ∷ []) k ≡ end_at ends k
end-kept ends e k l = get_or_append_left ends (e ∷ []) 0 k l

end-new : (ends : List ℕ) (e : ℕ) → end_at (ends ++ e ∷ []) (length ends) ≡ e
end-new ends e = get_or-append_seam ends e [] 0

start-kept : (ends : List ℕ) (e k : ℕ) → k ≤ length ends → start_at (ends ++ e ∷ []) k ≡ start_at ends k
start-kept ends e zero l = refl
start-kept ends e (suc k) l = end-kept ends e k (omega arith)

start-after : (ends : List ℕ) (e : ℕ) → start_at (ends ++ e ∷ []) (length (ends ++ e ∷ [])) ≡ e
start-after ends e =
    let size : length (ends ++ e ∷ []) ≡ suc (length ends) = omega (arith, length-append ends (e ∷ [])) in
    ap (start_at (ends ++ e ∷ [])) size ∙ end-new ends e

module _ (coefficients : List ℤ) (ends : List ℕ) (stored : AreStored coefficients ends) (more : List ℤ) where
  abbrev cut : ℕ
  cut = start_at ends (length ends)

  pub piece-kept : (k : ℕ) → k < length ends → piece (take cut coefficients ++ more) ends k ≡ piece coefficients ends k
  piece-kept k l = take-drop-kept coefficients more (start_at ends k) (end_at ends k) cut (stored.order k l) (stored.before k l)
      stored.within

  cut-size : length (take cut coefficients ++ more) ≡ cut + length more
  cut-size = omega (arith, length-append (take cut coefficients) more, length-take cut coefficients, stored.within)

  pub pieces-kept : pieces (take cut coefficients ++ more) ends ≡ pieces coefficients ends
  pieces-kept = map-same (piece (take cut coefficients ++ more) ends) (piece coefficients ends) (length ends) piece-kept

  pub AreStored-kept : AreStored (take cut coefficients ++ more) ends
  AreStored-kept = record {
    order = stored.order;
    before = stored.before;
    within = omega (arith, cut-size);
    each = λ k l. rw (piece-kept k l) (stored.each k l);
  }

  -- one polynomial more
  abbrev longer : List ℕ
  longer = ends ++ (cut + length more) ∷ []

  longer-size : length longer ≡ length ends + 1
  longer-size = length-append ends ((cut + length more) ∷ [])

  piece-before : (k : ℕ) → k < length ends → piece (take cut coefficients ++ more) longer k ≡ piece coefficients ends k
  piece-before k l = rw (end-kept ends (cut + length more) k l, start-kept ends (cut + length more) k (omega arith)) (piece-kept k l)

  piece-new : piece (take cut coefficients ++ more) longer (length ends) ≡ more
  piece-new =
      let size : length (take cut coefficients) ≡ cut = omega (arith, length-take cut coefficients, stored.within) in
      let count : cut + length more - cut ≡ length more = omega arith in
      let behind : drop cut (take cut coefficients ++ more) ≡ more
      = ap (λ n. drop n (take cut coefficients ++ more)) (sym size) ∙ drop-append_seam (take cut coefficients) more in
      rw (end-new ends (cut + length more), start-kept ends (cut + length more) (length ends) (omega arith), behind, count)
      (take_all (length more) more (omega arith))

  pub pieces-push : pieces (take cut coefficients ++ more) longer ≡ pieces coefficients ends ++ more ∷ []
  pieces-push =
      let before : map (piece (take cut coefficients ++ more) longer) (range_with_len 0 (length ends)) ≡ pieces coefficients ends
      = map-same (piece (take cut coefficients ++ more) longer) (piece coefficients ends) (length ends) piece-before
      in ap (λ n. map (piece (take cut coefficients ++ more) longer) (range_with_len 0 n)) longer-size
      ∙ map-range_with_len_more (piece (take cut coefficients ++ more) longer) 0 (length ends) (length ends) (omega arith)
      ∙ rw (before, piece-new) refl

  pub AreStored-push : IsStorable more → AreStored (take cut coefficients ++ more) longer
  AreStored-push storable = record {
    order = λ k l. elim (cases_lt k (length ends)) [
      | inl before ↦ rw (end-kept ends (cut + length more) k before, start-kept ends (cut + length more) k (omega arith))
          (stored.order k before)
      | inr past ↦
          let e : k ≡ length ends = omega (arith, l, longer-size) in
          rw (e, end-new ends (cut + length more), start-kept ends (cut + length more) (length ends) (omega arith)) (omega arith)
    ];
    before = λ k l. rw start-after (elim (cases_lt k (length ends)) [
      | inl before ↦ rw (end-kept ends (cut + length more) k before) (omega (arith, stored.before k before))
      | inr past ↦
          let e : k ≡ length ends = omega (arith, l, longer-size) in
          rw (e, end-new ends (cut + length more)) (omega arith)
    ]);
    within = rw start-after (omega (arith, cut-size));
    each = λ k l. elim (cases_lt k (length ends)) [
      | inl before ↦ rw (piece-before k before) (stored.each k before)
      | inr past ↦
          let e : k ≡ length ends = omega (arith, l, longer-size) in
          rw (e, piece-new) storable
    ];
  }

-- what the code leaves: the coefficients up to the last end, and more behind them
module _ (coefficients : List ℤ) (ends : List ℕ) (stored : AreStored coefficients ends) (start : ℕ)
    (at : start ≡ start_at ends (length ends))
    (new more : List ℤ) (is : new ≡ take start coefficients ++ more) where
  pub kept : AreStored new ends × (pieces new ends ≡ pieces coefficients ends)
  kept = rw (is, at) (AreStored-kept coefficients ends stored more, pieces-kept coefficients ends stored more)

  pub pushed : (longer : List ℕ) (end : ℕ) → longer ≡ ends ++ end ∷ [] → end ≡ start + length more → IsStorable more
      → AreStored new longer × (pieces new longer ≡ pieces coefficients ends ++ more ∷ [])
  pushed longer end grown size storable = rw (is, grown, size, at)
      (AreStored-push coefficients ends stored more storable, pieces-push coefficients ends stored more)
