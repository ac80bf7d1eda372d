mod Scans
