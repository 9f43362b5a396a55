pub mod ReportExact
