-- Laws of the lines.
use Rattle.std.specs.Prelude.{◌≡◌, ℕ, List, [], ◌∷◌, ◌++◌, Vec, Bool, true, false, Some, None, codes}
use Rattle.std.specs.Global.{Global}
use Rattle.go_text_core.specs.declared.rule.Rule.TheVariants.{I7, N2, O1, V2, V3}
use Rattle.go_wire_core.specs.declared.request.Command.TheVariants.{Open, Edit, Build, List as ListOf, Doc, Complete, Define, Run, Close}
use Rattle.go_wire_core.specs.declared.reply.FaultPlace.{FaultPlace}
use Rattle.go_wire_core.specs.declared.reply.PackageEntry.{PackageEntry}
use Rattle.go_wire_core.specs.declared.reply.RunEnd.TheVariants.{Ended, Panicked, Spent}
use Rattle.go_wire_core.specs.declared.reply.Symbol.{Symbol}
use Rattle.go_wire_core.specs.declared.reply.SymbolKind.TheVariants.{Const}
use Rattle.go_wire_core.specs.declared.reply.WireReply.TheVariants.{Opened, Done, Built, Listed, Described, Completed, Defined, Ran, Refused}
use Rattle.go_wire_core.specs.declared.step.Step.{Step}
use Rattle.go_wire_core.specs.declared.step.Step.TheVariants.{Ask, Refuse}
use Rattle.go_wire_core.specs.Lines.{ended_lines, lines}
use Rattle.go_wire_core.specs.Replies.{line_of}
use Rattle.go_wire_core.specs.Requests.{step_of}
use Rattle.go_wire_core.specs.Steps.{wire}

-- what the whole lines of the first bytes ask comes first of all that is asked, whatever comes behind
abbrev pub FirstComeFirst : Type 0
FirstComeFirst = (numbered : Bool) (came rest : List ℕ) → (more : List Step) × (wire numbered (lines (came ++ rest)) ≡ wire numbered (ended_lines came) ++ more)

-- ---- two sessions, line by line

-- the entry has these lists, path and name
pub record IsEntry (entry : PackageEntry) (deps files : List (List ℕ)) (path : List ℕ) (imports : List (List ℕ)) (name : List ℕ) : Type 0 where
  pub deps' : entry.deps.items ≡ deps
  pub files' : entry.files.items ≡ files
  pub path' : entry.path ≡ path
  pub imports' : entry.imports.items ≡ imports
  pub name' : entry.name ≡ name

pub record WorkedRequests : Type 0 where
  pub open_a : step_of true (codes "{\"cmd\":\"open\",\"module\":\"ex.com/a\",\"s\":1}") ≡ Ask (record { session = Some 1; command = Open (codes "ex.com/a") })
  pub edit_a : step_of true (codes "{\"cmd\":\"edit\",\"file\":\"x.go\",\"path\":\"ex.com/a/x\",\"s\":1,\"text\":\"package x\\n\\n// V is one.\\nconst V = 1\\n\\nconst w = 2\\n\"}")
      ≡ Ask (record { session = Some 1; command = Edit (codes "ex.com/a/x") (codes "x.go") (Some (codes "package x\n\n// V is one.\nconst V = 1\n\nconst w = 2\n")) })
  pub build_a : step_of true (codes "{\"cmd\":\"build\",\"s\":1}") ≡ Ask (record { session = Some 1; command = Build })
  pub open_b : step_of true (codes "{\"cmd\":\"open\",\"module\":\"ex.com/b\",\"s\":2}") ≡ Ask (record { session = Some 2; command = Open (codes "ex.com/b") })
  pub edit_b : step_of true (codes "{\"cmd\":\"edit\",\"file\":\"b.go\",\"path\":\"ex.com/b\",\"s\":2,\"text\":\"package b\\n\\nimport \\\"ex.com/a/x\\\"\\n\\nfunc f() int { return x.w }\\n\"}")
      ≡ Ask (record { session = Some 2; command = Edit (codes "ex.com/b") (codes "b.go") (Some (codes "package b\n\nimport \"ex.com/a/x\"\n\nfunc f() int { return x.w }\n")) })
  pub build_b : step_of true (codes "{\"cmd\":\"build\",\"s\":2}") ≡ Ask (record { session = Some 2; command = Build })
  pub complete : step_of true (codes "{\"cmd\":\"complete\",\"file\":\"b.go\",\"offset\":56,\"path\":\"ex.com/b\",\"s\":2}") ≡ Ask (record { session = Some 2; command = Complete (codes "ex.com/b") (codes "b.go") 56 })
  pub doc : step_of true (codes "{\"cmd\":\"doc\",\"from\":\"ex.com/b\",\"path\":\"ex.com/a/x\",\"s\":2}") ≡ Ask (record { session = Some 2; command = Doc (codes "ex.com/b") (codes "ex.com/a/x") None })
  pub list : step_of true (codes "{\"cmd\":\"list\",\"from\":\"ex.com/b\",\"s\":2}") ≡ Ask (record { session = Some 2; command = ListOf (codes "ex.com/b") })

pub record WorkedReplies : Type 0 where
  pub open_a : line_of (Some 1) (Opened (codes "ex.com/a")) ≡ codes "{\"ok\":{\"module\":\"ex.com/a\"},\"s\":1}\n"
  pub edit_a : line_of (Some 1) Done ≡ codes "{\"ok\":{},\"s\":1}\n"
  pub build_a : (faults : Vec FaultPlace Global) → faults.items ≡ [] → line_of (Some 1) (Built 1 faults) ≡ codes "{\"ok\":{\"batch\":1,\"faults\":[]},\"s\":1}\n"
  pub open_b : line_of (Some 2) (Opened (codes "ex.com/b")) ≡ codes "{\"ok\":{\"module\":\"ex.com/b\"},\"s\":2}\n"
  pub edit_b : line_of (Some 2) Done ≡ codes "{\"ok\":{},\"s\":2}\n"
  pub build_b : (faults : Vec FaultPlace Global)
      → faults.items ≡ record { path = codes "ex.com/b"; file = codes "b.go"; offset = 18; rule = I7 } ∷ record { path = codes "ex.com/b"; file = codes "b.go"; offset = 56; rule = N2 } ∷ []
      → line_of (Some 2) (Built 2 faults) ≡ codes "{\"ok\":{\"batch\":2,\"faults\":[{\"at\":\"ex.com/b/b.go:18\",\"rule\":\"I7\"},{\"at\":\"ex.com/b/b.go:56\",\"rule\":\"N2\"}]},\"s\":2}\n"
  pub complete : (names : Vec (List ℕ) Global) → names.items ≡ codes "V" ∷ [] → line_of (Some 2) (Completed 2 names) ≡ codes "{\"ok\":{\"batch\":2,\"names\":[\"V\"]},\"s\":2}\n"
  pub doc : (symbols : Vec Symbol Global) → symbols.items ≡ record { doc = codes "// V is one."; kind = Const; name = codes "V"; through = None } ∷ []
      → line_of (Some 2) (Described 2 (codes "x") (codes "ex.com/a/x") symbols)
      ≡ codes "{\"ok\":{\"batch\":2,\"name\":\"x\",\"path\":\"ex.com/a/x\",\"symbols\":[{\"doc\":\"// V is one.\",\"kind\":\"const\",\"name\":\"V\"}]},\"s\":2}\n"
  pub list : (own other : PackageEntry) (importable : Vec PackageEntry Global)
      → IsEntry own (codes "ex.com/a/x" ∷ []) (codes "b.go" ∷ []) (codes "ex.com/b") (codes "ex.com/a/x" ∷ []) (codes "b")
      → IsEntry other [] (codes "x.go" ∷ []) (codes "ex.com/a/x") [] (codes "x") → importable.items ≡ other ∷ []
      → line_of (Some 2) (Listed 2 own importable)
      ≡ codes "{\"ok\":{\"batch\":2,\"importable\":[{\"Deps\":[],\"GoFiles\":[\"x.go\"],\"ImportPath\":\"ex.com/a/x\",\"Imports\":[],\"Name\":\"x\"}],\"self\":{\"Deps\":[\"ex.com/a/x\"],\"GoFiles\":[\"b.go\"],\"ImportPath\":\"ex.com/b\",\"Imports\":[\"ex.com/a/x\"],\"Name\":\"b\"}},\"s\":2}\n"

-- ---- other lines

pub record WorkedLines : Type 0 where
  pub requests : WorkedRequests
  pub replies : WorkedReplies
  pub define : step_of false (codes "{\"cmd\":\"define\",\"file\":\"b.go\",\"offset\":56,\"path\":\"ex.com/b\"}") ≡ Ask (record { session = None; command = Define (codes "ex.com/b") (codes "b.go") 56 })
  pub defined : line_of None (Defined 2 (codes "ex.com/a/x/x.go:32")) ≡ codes "{\"ok\":{\"batch\":2,\"decl\":\"ex.com/a/x/x.go:32\"}}\n"
  pub run : step_of true (codes "{\"cmd\":\"run\",\"path\":\"ex.com/m\",\"s\":1,\"steps\":4}") ≡ Ask (record { session = Some 1; command = Run (codes "ex.com/m") 4 })
  pub run_of_most : step_of false (codes "{\"cmd\":\"run\",\"path\":\"m\",\"steps\":10000000}") ≡ Ask (record { session = None; command = Run (codes "m") 10000000 })
  pub run_of_more : step_of false (codes "{\"cmd\":\"run\",\"path\":\"m\",\"steps\":10000001}") ≡ Refuse None V2
  pub run_of_none : step_of true (codes "{\"cmd\":\"run\",\"path\":\"m\",\"s\":1,\"steps\":0}") ≡ Refuse (Some 1) V2
  pub ended : line_of (Some 1) (Ran 1 Ended (codes "3 true\n")) ≡ codes "{\"ok\":{\"batch\":1,\"end\":\"ended\",\"output\":\"3 true\\n\"},\"s\":1}\n"
  pub panicked : line_of None (Ran 2 Panicked []) ≡ codes "{\"ok\":{\"batch\":2,\"end\":\"panicked\",\"output\":\"\"}}\n"
  pub spent : line_of None (Ran 2 Spent []) ≡ codes "{\"ok\":{\"batch\":2,\"end\":\"J3\",\"output\":\"\"}}\n"
  pub remove : step_of true (codes "{\"cmd\":\"edit\",\"file\":\"x.go\",\"path\":\"ex.com/a\",\"s\":1,\"text\":null}") ≡ Ask (record { session = Some 1; command = Edit (codes "ex.com/a") (codes "x.go") None })
  pub doc_of : step_of true (codes "{\"cmd\":\"doc\",\"from\":\"a\",\"path\":\"b\",\"s\":1,\"type\":\"T\"}") ≡ Ask (record { session = Some 1; command = Doc (codes "a") (codes "b") (Some (codes "T")) })
  pub null_type : step_of true (codes "{\"cmd\":\"doc\",\"from\":\"a\",\"path\":\"b\",\"s\":1,\"type\":null}") ≡ Refuse (Some 1) V2
  pub refused : line_of (Some 2) (Refused O1) ≡ codes "{\"err\":\"O1\",\"s\":2}\n"
  pub order : step_of true (codes " {\"s\":32 , \"cmd\":\"close\"}\r") ≡ Ask (record { session = Some 32; command = Close })
  pub cut : step_of true (codes "{\"cmd\":\"bui") ≡ Refuse None V2
  pub unknown : step_of true (codes "{\"cmd\":\"frob\",\"s\":1}") ≡ Refuse (Some 1) V3
  pub unknown_of_none : step_of true (codes "{\"cmd\":\"frob\"}") ≡ Refuse None V2
  pub session : step_of true (codes "{\"cmd\":\"close\",\"s\":33}") ≡ Refuse None V2
  pub session_over : step_of false (codes "{\"cmd\":\"close\",\"s\":1}") ≡ Refuse None V2
  pub escaped : step_of true (codes "{\"cmd\":\"\\u0063lose\",\"s\":1}") ≡ Ask (record { session = Some 1; command = Close })
  pub over : step_of true (codes "{\"cmd\":\"close\",\"s\":1,\"x\":[1]}") ≡ Refuse (Some 1) V2
  pub trailing : step_of true (codes "{\"cmd\":\"close\",\"s\":1} 1") ≡ Refuse None V2
  pub point : step_of true (codes "{\"cmd\":\"close\",\"s\":1.0}") ≡ Refuse None V2
