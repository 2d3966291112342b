-- The text of a certificate by its parts.
use Rattle.std.proofs.Common.{◌≡◌, ℕ, List, [], ◌∷◌, ◌++◌, length, map, codes, decimal, ap, ◌∙◌, append_assoc}
use Rattle.std.specs.List.{flat_map}
use Rattle.std.proofs.lemmas.Grind.{flat_map-append}
use Rattle.std.proofs.lemmas.List.{length-map, append-nil}
use Rattle.cox_print.specs.AnswerText.{list_text}
use Rattle.cox_certtext.specs.Certificate.{Certificate, matrix_line, entry_line, end_line, certificate_text}
use Rattle.cox_certtext.specs.CertificateParts.{next_top_line, certificate_head, certificate_foot}

joined : (m t r d f e : List ℕ) → m ++ (t ++ ((r ++ d) ++ (f ++ e))) ≡ ((m ++ t) ++ r) ++ (d ++ f) ++ e
joined m t r d f e = simp append_assoc

pub certificate_text-parts : (c : Certificate) → certificate_text c
    ≡ certificate_head c.matrix c.top ++ list_text (map (entry_line c.matrix.rank) c.entries) ++ certificate_foot
certificate_text-parts c =
    let entries = map (entry_line c.matrix.rank) c.entries in
    let top = next_top_line c.matrix.rank c.top in
    let last : flat_map (λ line. 10 ∷ line) (entries ++ end_line ∷ []) ≡ flat_map (λ line. 10 ∷ line) entries ++ certificate_foot
    = flat_map-append (λ line. 10 ∷ line) entries (end_line ∷ [])
    ∙ ap (λ t. flat_map (λ line. 10 ∷ line) entries ++ t) (append-nil certificate_foot) in
    let count : length entries ≡ length c.entries = length-map c.entries (entry_line c.matrix.rank) in
    rw (last, count) (joined (matrix_line c.matrix) top (codes "\nrows ") (decimal (length c.entries))
    (flat_map (λ line. 10 ∷ line) entries) certificate_foot)
