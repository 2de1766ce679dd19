-- The opcodes from 1 to 182: each with its name, the number of its operands, and for those that are validated the roles of their operands and what they do.
use Rattle.std.specs.Prelude.{ℕ, Option, Some, None, List, [], ◌∷◌, ◌==◌, ◌&&◌, ◌||◌, nat_le, Bool, codes, length, find, option_map, bytes_eq}
use Rattle.op_table.specs.declared.form.Form.{Form}
use Rattle.op_table.specs.declared.form.Form.TheVariants.{Pass, FuncInfo, Call, CallLast, CallOnly, CallExt, CallExtLast, Bif0, Bif1, Bif2, Allocate, AllocateHeap, TestHeap, Deallocate, Return, Send, LoopRec, LoopRecEnd, Wait, WaitTimeout, Test, Select, Jump, Catch, CatchEnd, Move, GetList, GetTupleElement, ReadAll, PutList, Stop, CallFun, CallExtOnly, Try, TryEnd, TryCase, Apply, ApplyLast, GcBif1, GcBif2, Build, Trim, GcBif3, PutMap, GetMapElements, RawRaise, GetPart, PutTuple2, Swap, MakeFun3, InitYregs, Reserve, BsCreateBin, CallFun2, UpdateRecord}
use Rattle.op_table.specs.declared.role.Role.{Role}
use Rattle.op_table.specs.declared.role.Role.TheVariants.{S, D, Y, A, N, R, V, Z, H, M, G, F, FOr0, E, Any, Ls, Ly, Lm, Lp}
use Rattle.op_table.specs.declared.row.OpRow.{OpRow}
use Rattle.op_table.specs.declared.row.Profile.{Profile}
use Rattle.op_table.specs.declared.row.Profile.TheVariants.{Typed, Later, Out}

pub record Row : Type 0 where
  pub op : ℕ
  pub name : List ℕ
  pub arity : ℕ
  pub roles : List Role
  pub profile : Profile
  pub form : Form

abbrev pub row : ℕ → List ℕ → ℕ → List Role → Profile → Form → Row
row op name arity roles profile form = record { op = op; name = name; arity = arity; roles = roles; profile = profile; form = form }

-- an opcode that is validated
abbrev pub typed : ℕ → List ℕ → List Role → Form → Row
typed op name roles form = row op name (length roles) roles Typed form

-- an opcode that is superseded, or outside what is validated
abbrev pub out : ℕ → List ℕ → ℕ → Row
out op name arity = row op name arity [] Out Pass

-- an opcode that matches binaries
abbrev pub later : ℕ → List ℕ → ℕ → Row
later op name arity = row op name arity [] Later Pass

unfoldable pub table : List Row
table =
    typed 1 (codes "label") (N ∷ []) Pass
    ∷ typed 2 (codes "func_info") (A ∷ A ∷ R ∷ []) FuncInfo
    ∷ out 3 (codes "int_code_end") 0
    ∷ typed 4 (codes "call") (R ∷ E ∷ []) Call
    ∷ typed 5 (codes "call_last") (R ∷ E ∷ Z ∷ []) CallLast
    ∷ typed 6 (codes "call_only") (R ∷ E ∷ []) CallOnly
    ∷ typed 7 (codes "call_ext") (R ∷ M ∷ []) CallExt
    ∷ typed 8 (codes "call_ext_last") (R ∷ M ∷ Z ∷ []) CallExtLast
    ∷ typed 9 (codes "bif0") (M ∷ D ∷ []) Bif0
    ∷ typed 10 (codes "bif1") (FOr0 ∷ M ∷ S ∷ D ∷ []) Bif1
    ∷ typed 11 (codes "bif2") (FOr0 ∷ M ∷ S ∷ S ∷ D ∷ []) Bif2
    ∷ typed 12 (codes "allocate") (Z ∷ V ∷ []) Allocate
    ∷ typed 13 (codes "allocate_heap") (Z ∷ H ∷ V ∷ []) AllocateHeap
    ∷ out 14 (codes "allocate_zero") 2
    ∷ out 15 (codes "allocate_heap_zero") 3
    ∷ typed 16 (codes "test_heap") (H ∷ V ∷ []) TestHeap
    ∷ out 17 (codes "init") 1
    ∷ typed 18 (codes "deallocate") (Z ∷ []) Deallocate
    ∷ typed 19 (codes "return") [] Return
    ∷ typed 20 (codes "send") [] Send
    ∷ typed 21 (codes "remove_message") [] Pass
    ∷ typed 22 (codes "timeout") [] Pass
    ∷ typed 23 (codes "loop_rec") (F ∷ D ∷ []) LoopRec
    ∷ typed 24 (codes "loop_rec_end") (F ∷ []) LoopRecEnd
    ∷ typed 25 (codes "wait") (F ∷ []) Wait
    ∷ typed 26 (codes "wait_timeout") (F ∷ S ∷ []) WaitTimeout
    ∷ out 27 (codes "m_plus") 4
    ∷ out 28 (codes "m_minus") 4
    ∷ out 29 (codes "m_times") 4
    ∷ out 30 (codes "m_div") 4
    ∷ out 31 (codes "int_div") 4
    ∷ out 32 (codes "int_rem") 4
    ∷ out 33 (codes "int_band") 4
    ∷ out 34 (codes "int_bor") 4
    ∷ out 35 (codes "int_bxor") 4
    ∷ out 36 (codes "int_bsl") 4
    ∷ out 37 (codes "int_bsr") 4
    ∷ out 38 (codes "int_bnot") 3
    ∷ typed 39 (codes "is_lt") (FOr0 ∷ S ∷ S ∷ []) Test
    ∷ typed 40 (codes "is_ge") (FOr0 ∷ S ∷ S ∷ []) Test
    ∷ typed 41 (codes "is_eq") (FOr0 ∷ S ∷ S ∷ []) Test
    ∷ typed 42 (codes "is_ne") (FOr0 ∷ S ∷ S ∷ []) Test
    ∷ typed 43 (codes "is_eq_exact") (FOr0 ∷ S ∷ S ∷ []) Test
    ∷ typed 44 (codes "is_ne_exact") (FOr0 ∷ S ∷ S ∷ []) Test
    ∷ typed 45 (codes "is_integer") (FOr0 ∷ S ∷ []) Test
    ∷ typed 46 (codes "is_float") (FOr0 ∷ S ∷ []) Test
    ∷ typed 47 (codes "is_number") (FOr0 ∷ S ∷ []) Test
    ∷ typed 48 (codes "is_atom") (FOr0 ∷ S ∷ []) Test
    ∷ typed 49 (codes "is_pid") (FOr0 ∷ S ∷ []) Test
    ∷ typed 50 (codes "is_reference") (FOr0 ∷ S ∷ []) Test
    ∷ typed 51 (codes "is_port") (FOr0 ∷ S ∷ []) Test
    ∷ typed 52 (codes "is_nil") (FOr0 ∷ S ∷ []) Test
    ∷ typed 53 (codes "is_binary") (FOr0 ∷ S ∷ []) Test
    ∷ out 54 (codes "is_constant") 2
    ∷ typed 55 (codes "is_list") (FOr0 ∷ S ∷ []) Test
    ∷ typed 56 (codes "is_nonempty_list") (FOr0 ∷ S ∷ []) Test
    ∷ typed 57 (codes "is_tuple") (FOr0 ∷ S ∷ []) Test
    ∷ typed 58 (codes "test_arity") (FOr0 ∷ S ∷ N ∷ []) Test
    ∷ typed 59 (codes "select_val") (S ∷ FOr0 ∷ Lp ∷ []) Select
    ∷ typed 60 (codes "select_tuple_arity") (S ∷ FOr0 ∷ Lp ∷ []) Select
    ∷ typed 61 (codes "jump") (F ∷ []) Jump
    ∷ typed 62 (codes "catch") (Y ∷ F ∷ []) Catch
    ∷ typed 63 (codes "catch_end") (Y ∷ []) CatchEnd
    ∷ typed 64 (codes "move") (S ∷ D ∷ []) Move
    ∷ typed 65 (codes "get_list") (S ∷ D ∷ D ∷ []) GetList
    ∷ typed 66 (codes "get_tuple_element") (S ∷ N ∷ D ∷ []) GetTupleElement
    ∷ typed 67 (codes "set_tuple_element") (S ∷ S ∷ N ∷ []) ReadAll
    ∷ out 68 (codes "put_string") 3
    ∷ typed 69 (codes "put_list") (S ∷ S ∷ D ∷ []) PutList
    ∷ out 70 (codes "put_tuple") 2
    ∷ out 71 (codes "put") 1
    ∷ typed 72 (codes "badmatch") (S ∷ []) Stop
    ∷ typed 73 (codes "if_end") [] Stop
    ∷ typed 74 (codes "case_end") (S ∷ []) Stop
    ∷ typed 75 (codes "call_fun") (R ∷ []) CallFun
    ∷ out 76 (codes "make_fun") 3
    ∷ typed 77 (codes "is_function") (FOr0 ∷ S ∷ []) Test
    ∷ typed 78 (codes "call_ext_only") (R ∷ M ∷ []) CallExtOnly
    ∷ out 79 (codes "bs_start_match") 2
    ∷ out 80 (codes "bs_get_integer") 5
    ∷ out 81 (codes "bs_get_float") 5
    ∷ out 82 (codes "bs_get_binary") 5
    ∷ out 83 (codes "bs_skip_bits") 4
    ∷ out 84 (codes "bs_test_tail") 2
    ∷ out 85 (codes "bs_save") 1
    ∷ out 86 (codes "bs_restore") 1
    ∷ out 87 (codes "bs_init") 2
    ∷ out 88 (codes "bs_final") 2
    ∷ out 89 (codes "bs_put_integer") 5
    ∷ out 90 (codes "bs_put_binary") 5
    ∷ out 91 (codes "bs_put_float") 5
    ∷ out 92 (codes "bs_put_string") 2
    ∷ out 93 (codes "bs_need_buf") 1
    ∷ out 94 (codes "fclearerror") 0
    ∷ out 95 (codes "fcheckerror") 1
    ∷ out 96 (codes "fmove") 2
    ∷ out 97 (codes "fconv") 2
    ∷ out 98 (codes "fadd") 4
    ∷ out 99 (codes "fsub") 4
    ∷ out 100 (codes "fmul") 4
    ∷ out 101 (codes "fdiv") 4
    ∷ out 102 (codes "fnegate") 3
    ∷ out 103 (codes "make_fun2") 1
    ∷ typed 104 (codes "try") (Y ∷ F ∷ []) Try
    ∷ typed 105 (codes "try_end") (Y ∷ []) TryEnd
    ∷ typed 106 (codes "try_case") (Y ∷ []) TryCase
    ∷ typed 107 (codes "try_case_end") (S ∷ []) Stop
    ∷ typed 108 (codes "raise") (S ∷ S ∷ []) Stop
    ∷ out 109 (codes "bs_init2") 6
    ∷ out 110 (codes "bs_bits_to_bytes") 3
    ∷ out 111 (codes "bs_add") 5
    ∷ typed 112 (codes "apply") (R ∷ []) Apply
    ∷ typed 113 (codes "apply_last") (R ∷ Z ∷ []) ApplyLast
    ∷ typed 114 (codes "is_boolean") (FOr0 ∷ S ∷ []) Test
    ∷ typed 115 (codes "is_function2") (FOr0 ∷ S ∷ S ∷ []) Test
    ∷ out 116 (codes "bs_start_match2") 5
    ∷ later 117 (codes "bs_get_integer2") 7
    ∷ later 118 (codes "bs_get_float2") 7
    ∷ later 119 (codes "bs_get_binary2") 7
    ∷ later 120 (codes "bs_skip_bits2") 5
    ∷ later 121 (codes "bs_test_tail2") 3
    ∷ out 122 (codes "bs_save2") 2
    ∷ out 123 (codes "bs_restore2") 2
    ∷ typed 124 (codes "gc_bif1") (FOr0 ∷ V ∷ M ∷ S ∷ D ∷ []) GcBif1
    ∷ typed 125 (codes "gc_bif2") (FOr0 ∷ V ∷ M ∷ S ∷ S ∷ D ∷ []) GcBif2
    ∷ out 126 (codes "bs_final2") 2
    ∷ out 127 (codes "bs_bits_to_bytes2") 2
    ∷ out 128 (codes "put_literal") 2
    ∷ typed 129 (codes "is_bitstr") (FOr0 ∷ S ∷ []) Test
    ∷ out 130 (codes "bs_context_to_binary") 1
    ∷ later 131 (codes "bs_test_unit") 3
    ∷ later 132 (codes "bs_match_string") 4
    ∷ typed 133 (codes "bs_init_writable") [] Build
    ∷ out 134 (codes "bs_append") 8
    ∷ out 135 (codes "bs_private_append") 6
    ∷ typed 136 (codes "trim") (Z ∷ Z ∷ []) Trim
    ∷ out 137 (codes "bs_init_bits") 6
    ∷ later 138 (codes "bs_get_utf8") 5
    ∷ later 139 (codes "bs_skip_utf8") 4
    ∷ later 140 (codes "bs_get_utf16") 5
    ∷ later 141 (codes "bs_skip_utf16") 4
    ∷ later 142 (codes "bs_get_utf32") 5
    ∷ later 143 (codes "bs_skip_utf32") 4
    ∷ out 144 (codes "bs_utf8_size") 3
    ∷ out 145 (codes "bs_put_utf8") 3
    ∷ out 146 (codes "bs_utf16_size") 3
    ∷ out 147 (codes "bs_put_utf16") 3
    ∷ out 148 (codes "bs_put_utf32") 3
    ∷ typed 149 (codes "on_load") [] Pass
    ∷ out 150 (codes "recv_mark") 1
    ∷ out 151 (codes "recv_set") 1
    ∷ typed 152 (codes "gc_bif3") (FOr0 ∷ V ∷ M ∷ S ∷ S ∷ S ∷ D ∷ []) GcBif3
    ∷ typed 153 (codes "line") (Any ∷ []) Pass
    ∷ typed 154 (codes "put_map_assoc") (FOr0 ∷ S ∷ D ∷ V ∷ Ls ∷ []) PutMap
    ∷ typed 155 (codes "put_map_exact") (FOr0 ∷ S ∷ D ∷ V ∷ Ls ∷ []) PutMap
    ∷ typed 156 (codes "is_map") (FOr0 ∷ S ∷ []) Test
    ∷ typed 157 (codes "has_map_fields") (FOr0 ∷ S ∷ Ls ∷ []) Test
    ∷ typed 158 (codes "get_map_elements") (FOr0 ∷ S ∷ Lm ∷ []) GetMapElements
    ∷ typed 159 (codes "is_tagged_tuple") (FOr0 ∷ S ∷ N ∷ A ∷ []) Test
    ∷ typed 160 (codes "build_stacktrace") [] Build
    ∷ typed 161 (codes "raw_raise") [] RawRaise
    ∷ typed 162 (codes "get_hd") (S ∷ D ∷ []) GetPart
    ∷ typed 163 (codes "get_tl") (S ∷ D ∷ []) GetPart
    ∷ typed 164 (codes "put_tuple2") (D ∷ Ls ∷ []) PutTuple2
    ∷ later 165 (codes "bs_get_tail") 3
    ∷ later 166 (codes "bs_start_match3") 4
    ∷ later 167 (codes "bs_get_position") 3
    ∷ later 168 (codes "bs_set_position") 2
    ∷ typed 169 (codes "swap") (D ∷ D ∷ []) Swap
    ∷ later 170 (codes "bs_start_match4") 4
    ∷ typed 171 (codes "make_fun3") (G ∷ D ∷ Ls ∷ []) MakeFun3
    ∷ typed 172 (codes "init_yregs") (Ly ∷ []) InitYregs
    ∷ typed 173 (codes "recv_marker_bind") (S ∷ S ∷ []) ReadAll
    ∷ typed 174 (codes "recv_marker_clear") (S ∷ []) ReadAll
    ∷ typed 175 (codes "recv_marker_reserve") (D ∷ []) Reserve
    ∷ typed 176 (codes "recv_marker_use") (S ∷ []) ReadAll
    ∷ typed 177 (codes "bs_create_bin") (FOr0 ∷ H ∷ V ∷ N ∷ D ∷ Ls ∷ []) BsCreateBin
    ∷ typed 178 (codes "call_fun2") (Any ∷ R ∷ S ∷ []) CallFun2
    ∷ typed 179 (codes "nif_start") [] Pass
    ∷ typed 180 (codes "badrecord") (S ∷ []) Stop
    ∷ typed 181 (codes "update_record") (Any ∷ N ∷ S ∷ D ∷ Ls ∷ []) UpdateRecord
    ∷ later 182 (codes "bs_match") 3
    ∷ []

-- the row with this number
abbrev pub row_with : ℕ → Option Row
row_with op = find (λ r. r.op == op) table

-- what the opcode of a row is called, which every instruction has
abbrev pub row_name : Option Row → List ℕ
row_name (Some r) = r.name
row_name None = []

-- the row of this name
abbrev pub row_named : List ℕ → Option Row
row_named name = find (λ r. bytes_eq r.name name) table

-- a lower-case letter, a digit or `_`
abbrev pub is_name_byte : ℕ → Bool
is_name_byte b = (nat_le 97 b && nat_le b 122) || (nat_le 48 b && nat_le b 57) || (b == 95)

-- how many operands an opcode has
abbrev pub arity_of : ℕ → Option ℕ
arity_of op = option_map (λ r. r.arity) (row_with op)

-- what the operands of an opcode are for; there are none where it is not validated
abbrev pub roles_in : Option Row → List Role
roles_in None = []
roles_in (Some r) = r.roles

abbrev pub roles_of : ℕ → List Role
roles_of op = roles_in (row_with op)

-- a row without where its name and its roles lie in memory
abbrev pub row_of : OpRow → Row
row_of r = row r.op r.name.now r.arity r.roles.now r.profile r.form
