pub mod Reporting
pub mod Adding
pub mod Faulty
pub mod Putting
pub mod Finding
pub mod Rising
pub mod OneFaults
pub mod OneSnapshot
pub mod Lying
pub mod Placing
pub mod Apart
pub mod Filed
pub mod NearClosing
pub mod NearAgreeing
pub mod NearExpressions
pub mod NearReaching
pub mod NearSeeing
pub mod NearStatements
pub mod NearPieces
pub mod NearWalking
pub mod NearFunctions
pub mod NearTops
pub mod NearFiles
pub mod NearPackages
pub mod WholeWorkspaceBeside
mod WholeWorkspaceBinding
pub mod WholeWorkspaceChecks
mod WholeWorkspaceFaults
pub mod WholeWorkspaceInputting
pub mod WholeWorkspaceLists
pub mod WholeWorkspaceMaking
mod WholeWorkspaceMeanings
pub mod WholeWorkspaceNames
pub mod WholeWorkspaceNext
pub mod WholeWorkspaceOneWhole
pub mod WholeWorkspaceOrder
mod WholeWorkspaceLedTo
pub mod WholeWorkspaceParts
pub mod WholeWorkspacePartsWhole
mod WholeWorkspaceSeeing
pub mod WholeWorkspaceStaying
pub mod WholeWorkspaceTargets
pub mod WholeWorkspaceTheirs
pub mod WholeWorkspaceTold
mod WholeWorkspaceTypes
pub mod WholeWorkspaceValues
pub mod MakeFinding
pub mod MakeKeeping
pub mod MakeMarking
pub mod MakeSearching
pub mod MakeTelling
