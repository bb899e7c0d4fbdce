mod PlanCommon
pub mod Planning
pub mod Parting
pub mod Worlds
mod ReportCommon
pub mod Keys
pub mod Written
pub mod Sizes
pub mod Marks
pub mod Scan
pub mod Taking
pub mod Alone
pub mod Sharing
pub mod Histories
pub mod Dealing
mod Ticking
pub mod Whole
pub mod PiecesGiven
pub mod Seams
mod StreamCommon
mod WorkerCommon
pub mod Soles
pub mod Going
pub mod OneCaller
pub mod Opening
pub mod Events
pub mod Reporting
pub mod Courses
pub mod Owning
pub mod Joining
pub mod Endings
pub mod Summing
pub mod Ordering
pub mod Gathered
pub mod LastLine
pub mod Reports
