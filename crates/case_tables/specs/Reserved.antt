-- The words that no name may be.
use Rattle.std.specs.Prelude.{ℕ, nat_le, List, ◌++◌, Option, if◌then◌else◌}
use Rattle.case_tables.specs.declared.word_table.WordRole.{WordRole}
use Rattle.case_tables.specs.declared.word_table.WordRow.{WordRow}
use Rattle.case_tables.specs.declared.reserved.TheConstants.{A_TO_B, C, D_TO_E, F_TO_I, J_TO_N, O_TO_Q, R, S, T_TO_Z}
use Rattle.case_tables.specs.Table.{role_in}

-- the rows of all the words, in byte order
unfoldable pub reserved_rows : List WordRow
reserved_rows = A_TO_B.rows ++ (C.rows ++ (D_TO_E.rows ++ (F_TO_I.rows ++ (J_TO_N.rows ++ (O_TO_Q.rows ++ (R.rows ++ (S.rows ++ T_TO_Z.rows)))))))

-- the role of a word that no name may be
unfoldable pub role_of : List ℕ → Option WordRole
role_of word = role_in word reserved_rows

unfoldable pub in_a_to_b : List ℕ → Option WordRole
in_a_to_b word = role_in word A_TO_B.rows

unfoldable pub in_c : List ℕ → Option WordRole
in_c word = role_in word C.rows

unfoldable pub in_d_to_e : List ℕ → Option WordRole
in_d_to_e word = role_in word D_TO_E.rows

unfoldable pub in_f_to_i : List ℕ → Option WordRole
in_f_to_i word = role_in word F_TO_I.rows

unfoldable pub in_j_to_n : List ℕ → Option WordRole
in_j_to_n word = role_in word J_TO_N.rows

unfoldable pub in_o_to_q : List ℕ → Option WordRole
in_o_to_q word = role_in word O_TO_Q.rows

unfoldable pub in_r : List ℕ → Option WordRole
in_r word = role_in word R.rows

unfoldable pub in_s : List ℕ → Option WordRole
in_s word = role_in word S.rows

unfoldable pub in_t_to_z : List ℕ → Option WordRole
in_t_to_z word = role_in word T_TO_Z.rows

-- the role of a word in the table of its first letter
unfoldable pub by_letter : ℕ → List ℕ → Option WordRole
by_letter first word =
    if nat_le first 66 then in_a_to_b word else (if nat_le first 67 then in_c word else (if nat_le first 69 then in_d_to_e word else (if nat_le first 73 then in_f_to_i word else (if nat_le first 78 then in_j_to_n word else (if nat_le first 81 then in_o_to_q word else (if nat_le first 82 then in_r word else (if nat_le first 83 then in_s word else (in_t_to_z word))))))))
